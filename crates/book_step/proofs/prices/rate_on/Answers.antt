use Rattle.std.proofs.Common.{None, Some, ◌∙◌}
use Rattle.book_command.proofs.RateLemmas.{rate_is}
use Rattle.book_step.proofs.prices.rate_on.Goals as goal

pub returns-in_err-rate : goal.returns-in_err-rate
returns-in_err-rate c =
    c.from_residual.ensures
    ∙ rate_is c.args.prices.now.entries c.args.commodity c.args.currency c.args.day None c.requires.1 c.in_err-rate.ensures

pub returns : goal.returns
returns c =
    rate_is c.args.prices.now.entries c.args.commodity c.args.currency c.args.day (Some c.in_ok-rate.rate) c.requires.1
    c.in_ok-rate.ensures
