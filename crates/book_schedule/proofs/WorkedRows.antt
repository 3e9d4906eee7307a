-- Worked rows of recurrences and of their days, computed from the definitions.
use Rattle.std.proofs.Common.{◌≡◌, refl, arith, rules, pos}
use Rattle.jiff_core.specs.Calendar.{days_from_civil, day_count, days_of_years, days_of_months, weekday_number}
use Rattle.jiff_core.proofs.SignedLemmas.{signed_arith}
use Rattle.book_commodity.specs.Day.{year_of, month_of, day_of_month, clipped_day}
use Rattle.book_commodity.proofs.DayLemmas.{date_is}
use Rattle.book_schedule.specs.Recurrence.{first_of_month, numbered_day, weekday_from, adjusted, nth_day, HasOccurrence}
use Rattle.book_schedule.specs.declared.recurrence.Adjust.TheVariants.{Nothing, Back}
use Rattle.book_schedule.specs.declared.recurrence.Recurrence.{Recurrence}
use Rattle.book_schedule.specs.declared.recurrence.RecurrenceKind.TheVariants.{Once, Monthly, NthWeekday}

-- 2024-01-31 is day 19753, and 2024-01-09 day 19731
january_31_is : days_from_civil (pos 2024) 1 31 ≡ pos 19753
unfolding days_from_civil day_count days_of_years days_of_months
january_31_is = refl

january_31 : (pos 2024 ≡ year_of (pos 19753)) × (1 ≡ month_of (pos 19753)) × (31 ≡ day_of_month (pos 19753))
january_31 =
    date_is (pos 19753) (pos 2024) 1 31 (omega (arith, signed_arith), omega (arith, signed_arith))
    (search rules) january_31_is

january_9_is : days_from_civil (pos 2024) 1 9 ≡ pos 19731
unfolding days_from_civil day_count days_of_years days_of_months
january_9_is = refl

january_9 : (pos 2024 ≡ year_of (pos 19731)) × (1 ≡ month_of (pos 19731)) × (9 ≡ day_of_month (pos 19731))
january_9 =
    date_is (pos 19731) (pos 2024) 1 9 (omega (arith, signed_arith), omega (arith, signed_arith))
    (search rules) january_9_is

-- each month from 2024-01-31, moved back from the weekend: 2024-01-31, 2024-02-29, 2024-03-29, 2024-04-30
abbrev pub each_month : Recurrence
each_month = record { kind = Monthly; every = 1; start = pos 19753; adjust = Back }

pub each_month_days :
    (nth_day each_month 0 ≡ pos 19753) × (nth_day each_month 1 ≡ pos 19782) × (nth_day each_month 2 ≡ pos 19811)
    × (nth_day each_month 3 ≡ pos 19843)
unfolding nth_day numbered_day clipped_day adjusted weekday_number days_from_civil day_count
    days_of_years days_of_months
each_month_days = rw (← january_31.0, ← january_31.1, ← january_31.2) (refl, refl, refl, refl)

-- the second Tuesday from 2024-01-09: 2024-02-13, 2024-03-12
abbrev pub second_tuesday : Recurrence
second_tuesday = record { kind = NthWeekday; every = 1; start = pos 19731; adjust = Nothing }

pub second_tuesday_days : (nth_day second_tuesday 1 ≡ pos 19766) × (nth_day second_tuesday 2 ≡ pos 19794)
unfolding nth_day first_of_month weekday_from adjusted weekday_number days_from_civil day_count
    days_of_years days_of_months
second_tuesday_days = rw (← january_9.0, ← january_9.1, ← january_9.2) (refl, refl)

-- what comes once does not come again
pub once_not_again : HasOccurrence (record { kind = Once; every = 1; start = pos 19753; adjust = Nothing }) 1 → ⊥
once_not_again has = absurd (omega arith)
