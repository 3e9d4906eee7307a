use Rattle.std.proofs.Common.{sym, ◌∙◌}
use Rattle.book_statement.proofs.DateLemmas.{short_date-parts, short_date-none}
use Rattle.book_statement.proofs.dates.short_date.Goals as goal

pub returns-then-not-has_digits : goal.returns-then-not-has_digits
returns-then-not-has_digits c = sym
    (short_date-none c.args.text.now (sym c.has_digits.ensures ∙ c.if-not-has_digits.true))

pub returns : goal.returns
returns c =
    c.day_of_date.ensures
    ∙ short_date-parts c.args.text.now c.number.result c.year_of_two-year.result c.number-2.result c.number-3.result
    (sym c.has_digits.ensures ∙ c.if-not-has_digits.false) c.number.ensures.value c.year_of_two-year.ensures
    c.number-2.ensures.value c.number-3.ensures.value
