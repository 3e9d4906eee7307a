-- Recurrences: the days on which something comes again, each counted from the start and then moved off the weekend
-- (GnuCash Manual, scheduled transactions).
use Rattle.std.specs.Prelude.{ℕ, ◌≡◌, ◌+◌, ◌-◌, ◌*◌, ◌/◌, ◌%◌, nat_le, nat_lt, if◌then◌else◌, ℤ, pos, ◌+ℤ◌, ◌-ℤ◌, ⊤}
use Rattle.jiff_core.specs.Calendar.{days_from_civil, days_in_month, weekday_number}
use Rattle.book_commodity.specs.Day.{IsDay, clipped_day, day_of_month, month_count}
use Rattle.book_schedule.specs.declared.recurrence.Adjust.{Adjust}
use Rattle.book_schedule.specs.declared.recurrence.Adjust.TheVariants.{Nothing, Back, Forward}
use Rattle.book_schedule.specs.declared.recurrence.Recurrence.{Recurrence}
use Rattle.book_schedule.specs.declared.recurrence.RecurrenceKind.{RecurrenceKind}
use Rattle.book_schedule.specs.declared.recurrence.RecurrenceKind.TheVariants.{Once, Daily, Weekly, Monthly, EndOfMonth}
use Rattle.book_schedule.specs.declared.recurrence.RecurrenceKind.TheVariants.{NthWeekday, LastWeekday, Yearly}

-- Months are numbered through the years, twelve a year: the first day of a month.
unfoldable pub first_of_month : ℕ → ℤ
first_of_month month = days_from_civil (pos (month / 12)) (month % 12 + 1) 1

-- The last day of a month.
unfoldable pub last_of_month : ℕ → ℤ
last_of_month month =
    days_from_civil (pos (month / 12)) (month % 12 + 1) (days_in_month (pos (month / 12)) (month % 12 + 1))

-- The day of a month that has a number, or the month's last day where it is shorter.
unfoldable pub numbered_day : ℕ → ℕ → ℤ
numbered_day month number = clipped_day (pos (month / 12)) (month % 12 + 1) number

-- The first day from a day on that has the weekday, from 0 for Monday.
unfoldable pub weekday_from : ℤ → ℕ → ℤ
weekday_from day weekday = day +ℤ pos ((weekday + 7 - weekday_number day) % 7)

-- The last day up to a day that has the weekday.
unfoldable pub weekday_up_to : ℤ → ℕ → ℤ
weekday_up_to day weekday = day -ℤ pos ((weekday_number day + 7 - weekday) % 7)

-- The last day of a month that has the weekday of the start.
abbrev pub last_weekday : ℤ → ℕ → ℤ
last_weekday start month = weekday_up_to (last_of_month month) (weekday_number start)

-- How many days of its weekday a day's month has up to it.
abbrev pub ordinal : ℤ → ℕ
ordinal day = (day_of_month day + 6) / 7

-- The day of a month with the weekday and the ordinal of the start; for a start after the 28th, whose ordinal is 5,
-- the last day with that weekday.
abbrev pub nth_weekday : ℤ → ℕ → ℤ
nth_weekday start month =
    if nat_le (day_of_month start) 28
    then weekday_from (first_of_month month) (weekday_number start) +ℤ pos (7 * (ordinal start - 1))
    else last_weekday start month

-- The day that lies so many days, weeks, months or years after the start, by the kind of the recurrence.
abbrev pub day_after : RecurrenceKind → ℤ → ℕ → ℤ
day_after Once start steps = start
day_after Daily start steps = start +ℤ pos steps
day_after Weekly start steps = start +ℤ pos (7 * steps)
day_after Monthly start steps = numbered_day (month_count start steps) (day_of_month start)
day_after EndOfMonth start steps = last_of_month (month_count start steps)
day_after NthWeekday start steps = nth_weekday start (month_count start steps)
day_after LastWeekday start steps = last_weekday start (month_count start steps)
day_after Yearly start steps = numbered_day (month_count start (12 * steps)) (day_of_month start)

-- How many days after Friday a day of the weekend lies, and 0 for the other days.
abbrev pub days_past_friday : ℤ → ℕ
days_past_friday day = weekday_number day - 4

-- How many days before Monday a day of the weekend lies, and 0 for the other days.
abbrev pub days_to_monday : ℤ → ℕ
days_to_monday day = if nat_lt 4 (weekday_number day) then 7 - weekday_number day else 0

-- A day of the weekend moved back to Friday or forward to Monday; all other days stay.
unfoldable pub adjusted : Adjust → ℤ → ℤ
adjusted Nothing day = day
adjusted Back day = day -ℤ pos (days_past_friday day)
adjusted Forward day = day +ℤ pos (days_to_monday day)

-- Only days of a month or a year are moved; the others keep their weekday or are counted in days.
abbrev pub adjustment : RecurrenceKind → Adjust → Adjust
adjustment Once adjust = Nothing
adjustment Daily adjust = Nothing
adjustment Weekly adjust = Nothing
adjustment Monthly adjust = adjust
adjustment EndOfMonth adjust = adjust
adjustment NthWeekday adjust = Nothing
adjustment LastWeekday adjust = Nothing
adjustment Yearly adjust = adjust

-- The day of the occurrence with number k, from 0: k times the multiplier of steps after the start, then moved.
unfoldable pub nth_day : Recurrence → ℕ → ℤ
nth_day recurrence k =
    adjusted (adjustment recurrence.kind recurrence.adjust)
    (day_after recurrence.kind recurrence.start (k * recurrence.every))

-- What comes once has occurrence 0 alone.
abbrev pub Repeats : RecurrenceKind → ℕ → Type 0
Repeats Once k = k ≡ 0
Repeats Daily k = ⊤
Repeats Weekly k = ⊤
Repeats Monthly k = ⊤
Repeats EndOfMonth k = ⊤
Repeats NthWeekday k = ⊤
Repeats LastWeekday k = ⊤
Repeats Yearly k = ⊤

-- There is an occurrence k, and its day is one of the book, from 1900-01-01 to 2199-12-31.
abbrev pub HasOccurrence : Recurrence → ℕ → Type 0
HasOccurrence recurrence k = Repeats recurrence.kind k × IsDay (nth_day recurrence k)

-- A day is that of some occurrence.
abbrev pub OccursOn : Recurrence → ℤ → Type 0
OccursOn recurrence day = (k : ℕ) × HasOccurrence recurrence k × (day ≡ nth_day recurrence k)
