use Rattle.std.proofs.Common.{ℕ, List, pos, refl, sym, subst, ◌∙◌}
use Rattle.book_statement.proofs.CheckLemmas.{tells-held}
use Rattle.book_statement.specs.Checks.{Tells}
use Rattle.book_statement.specs.Numbers.{units, unit_checks}
use Rattle.book_statement.specs.declared.bad.Bad.TheVariants.{AmountForm}
use Rattle.qif_read.specs.QifAmount.{without_commas, is_number}
use Rattle.qif_read.proofs.AmountLemmas.{too_long, whole_digits_of, decimals_of}
use Rattle.qif_read.proofs.amount.read_units.Goals as goal

pub returns-in_default : goal.returns-in_default
returns-in_default c = rw (too_long c.args.whole.now c.args.decimals.now c.in_default.ensures) refl

pub returns-then-not-is_number : goal.returns-then-not-is_number
returns-then-not-is_number c = rw (sym c.is_number.ensures ∙ c.if-not-is_number.true) refl

pub units_of-requires-clause-whole : goal.units_of-requires-clause-whole
units_of-requires-clause-whole c =
    rw c.in-Some.ensures.1
    (whole_digits_of c.args.whole.now c.args.decimals.now (sym c.is_number.ensures ∙ c.if-not-is_number.false))

pub units_of-requires-clause-decimals : goal.units_of-requires-clause-decimals
units_of-requires-clause-decimals c =
    decimals_of c.args.whole.now c.args.decimals.now (sym c.is_number.ensures ∙ c.if-not-is_number.false)

pub returns : goal.returns
returns c =
    let P : List ℕ → Type 0 = λ digits. Tells (unit_checks digits c.args.decimals.now c.args.fraction)
    (pos (units digits c.args.decimals.now c.args.fraction)) c.units_of.result in
    tells-held (is_number c.args.whole.now c.args.decimals.now) AmountForm
    (unit_checks (without_commas c.args.whole.now) c.args.decimals.now c.args.fraction)
    (pos (units (without_commas c.args.whole.now) c.args.decimals.now c.args.fraction)) c.units_of.result
    (sym c.is_number.ensures ∙ c.if-not-is_number.false) (subst P c.in-Some.ensures.1 c.units_of.ensures)
