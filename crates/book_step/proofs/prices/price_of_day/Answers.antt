use Rattle.std.proofs.Common.{sym, ◌∙◌}
use Rattle.book_step.proofs.PriceLemmas.{found_of_day, none_of_day}
use Rattle.book_step.proofs.prices.price_of_day.Goals as goal

pub returns-in_err-number : goal.returns-in_err-number
returns-in_err-number c =
    c.from_residual.ensures ∙ sym (none_of_day c.args.prices.now.entries c.args.price.now c.in_err-number.ensures)

pub returns : goal.returns
returns c =
    sym (found_of_day c.args.prices.now.entries c.args.price.now c.in_ok-number.number c.in_ok-found.found.now
    c.requires c.in_ok-number.ensures (sym c.in_ok-found.ensures))
