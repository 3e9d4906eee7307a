use Rattle.std.proofs.Common.{sym, ◌∙◌}
use Rattle.mt940_read.specs.Balances.{balance}
use Rattle.mt940_read.proofs.CheckedLemmas.{later_unknown, later_differs, later_tells}
use Rattle.mt940_read.proofs.checks.check_later_currency.Goals as goal

pub returns-then-not-is_known : goal.returns-then-not-is_known
returns-then-not-is_known c = later_unknown c.args.known.now.entries c.args.message.now c.args.text.now
    (sym c.is_known.ensures ∙ c.if-not-is_known.true)

pub returns-then-not-has_currency : goal.returns-then-not-has_currency
returns-then-not-has_currency c =
    later_differs c.args.known.now.entries c.args.message.now c.args.text.now (sym c.is_known.ensures
    ∙ c.if-not-is_known.false)
    (sym c.has_currency.ensures ∙ c.if-not-has_currency.true)

pub returns : goal.returns
returns c =
    later_tells c.args.known.now.entries c.args.message.now c.args.text.now
    (balance c.args.message.now.fraction c.args.text.now) c.balance.result
    (sym c.is_known.ensures ∙ c.if-not-is_known.false) (sym c.has_currency.ensures
    ∙ c.if-not-has_currency.false) c.balance.ensures
