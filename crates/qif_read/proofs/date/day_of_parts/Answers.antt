use Rattle.qif_read.proofs.DateLemmas.{first_digits, second_digits, year_digits}
use Rattle.qif_read.proofs.date.day_of_parts.Goals as goal

pub year_said-year-requires : goal.year_said-year-requires
year_said-year-requires c = year_digits _ (rw c.is_date_form.ensures at c.if-not-is_date_form.false)

pub number_of_two-requires : goal.number_of_two-requires
number_of_two-requires c = first_digits _ (rw c.is_date_form.ensures at c.if-not-is_date_form.false)

pub number_of_two-requires-2 : goal.number_of_two-requires-2
number_of_two-requires-2 c = second_digits _ (rw c.is_date_form.ensures at c.if-not-is_date_form.false)
