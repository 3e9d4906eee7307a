use Rattle.std.proofs.Common.{rules, sym, ap, ◌∙◌}
use Rattle.book_statement.specs.Dates.{short_date}
use Rattle.book_statement.specs.Numbers.{has_digits}
use Rattle.book_statement.specs.Texts.{is_nothing}
use Rattle.mt940_read.specs.LineField.{line_day, line_days, value_day, value_part}
use Rattle.mt940_read.proofs.FormLemmas.{short_digits, entry_digits}
use Rattle.mt940_read.proofs.line_field.days.Goals as goal

pub entry_date-requires-clause-value : goal.entry_date-requires-clause-value
entry_date-requires-clause-value c =
    ap (has_digits 6 6) c.value_part-date.ensures
    ∙ short_digits (value_part c.args.text.now) c.in_ok-value.value (ap short_date (sym c.value_part-date.ensures)
    ∙ sym c.short_date.ensures ∙ c.in_ok-value.was)

pub entry_date-requires-clause-entry : goal.entry_date-requires-clause-entry
entry_date-requires-clause-entry c =
    ap (has_digits 4 4) c.requires
    ∙ entry_digits c.args.text.now (sym (ap is_nothing c.requires) ∙ sym c.if-is_empty.ensures)

pub returns-then-is_empty : goal.returns-then-is_empty
unfolding line_days line_day value_day
returns-then-is_empty c = search rules

pub returns-in_err-day : goal.returns-in_err-day
unfolding line_days line_day value_day
returns-in_err-day c = search rules

pub returns : goal.returns
unfolding line_days line_day value_day
returns c = search rules
