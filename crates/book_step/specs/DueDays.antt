-- The due days of a schedule as a list. That it has the days which are due by the definition of `book_schedule`, and no
-- other, is shown in `proofs/DueDayLemmas`.
use Rattle.std.specs.Prelude.{ℕ, zero, suc, ◌+◌, ◌-◌, ◌==◌, ◌&&◌, Bool, true, if◌then◌else◌, List, [], ◌∷◌, take}
use Rattle.std.specs.Prelude.{filter, Option, Some, None, ℤ, pos, ◌+ℤ◌, int_le, int_lt}
use Rattle.std.specs.Int.{int_min}
use Rattle.std.specs.Ordering.{int_eq}
use Rattle.book_schedule.specs.Recurrence.{nth_day}
use Rattle.book_schedule.specs.declared.recurrence.Recurrence.{Recurrence}
use Rattle.book_schedule.specs.declared.recurrence.RecurrenceKind.{RecurrenceKind}
use Rattle.book_schedule.specs.declared.recurrence.RecurrenceKind.TheVariants.{Once, Daily, Weekly, Monthly, EndOfMonth}
use Rattle.book_schedule.specs.declared.recurrence.RecurrenceKind.TheVariants.{NthWeekday, LastWeekday, Yearly}
use Rattle.book_schedule.specs.declared.timing.End.{End}
use Rattle.book_schedule.specs.declared.timing.End.TheVariants.{Never, Until, After}
use Rattle.book_schedule.specs.declared.timing.Timing.{Timing}

-- Whether what recurs so has an occurrence of this number: what comes once has occurrence 0 alone.
abbrev pub repeats : RecurrenceKind → ℕ → Bool
repeats Once k = k == 0
repeats Daily k = true
repeats Weekly k = true
repeats Monthly k = true
repeats EndOfMonth k = true
repeats NthWeekday k = true
repeats LastWeekday k = true
repeats Yearly k = true

-- Whether occurrence k is there, and not later than a day.
abbrev pub occurs_up_to : ℤ → Recurrence → ℕ → Bool
occurs_up_to limit recurrence k = repeats recurrence.kind k && int_le (nth_day recurrence k) limit

-- The days of the occurrences from number k on that are not later than a day, of so many at most.
abbrev pub days_from : ℤ → Recurrence → ℕ → ℕ → List ℤ
days_from limit recurrence k zero = []
days_from limit recurrence k (suc most) =
    if occurs_up_to limit recurrence k then nth_day recurrence k ∷ days_from limit recurrence (k + 1) most else []

-- The range of the book, from 1900-01-01 to 2199-12-31, has so many days: no recurrence has more occurrences.
unfoldable pub most_occurrences : ℕ
most_occurrences = 109573

-- The days of all its occurrences that are not later than a day.
unfoldable pub days_of : ℤ → Recurrence → List ℤ
days_of limit recurrence = days_from limit recurrence 0 most_occurrences

-- Days in order, each once, with one more.
abbrev pub with_day : ℤ → List ℤ → List ℤ
with_day day [] = day ∷ []
with_day day (other ∷ more) =
    if int_lt day other then day ∷ other ∷ more
    else (if int_eq day other then other ∷ more else other ∷ with_day day more)

-- Days in order, each once, with some more.
abbrev pub with_days : List ℤ → List ℤ → List ℤ
with_days [] days = days
with_days (day ∷ more) days = with_day day (with_days more days)

-- The days of several recurrences up to a day are the set of the days of each.
abbrev pub days_of_all : ℤ → List Recurrence → List ℤ
days_of_all limit [] = []
days_of_all limit (recurrence ∷ more) = with_days (days_of limit recurrence) (days_of_all limit more)

-- The last day that an end by date allows, and the last day of the range where it is none.
abbrev pub end_day : End → ℤ
end_day Never = pos 84005
end_day (Until last) = int_min last (pos 84005)
end_day (After count) = pos 84005

-- The last day that may be due up to a day: it is not later than that and the days in advance, nor than the end.
abbrev pub last_day : Timing → ℤ → ℤ
last_day timing upto = int_min (upto +ℤ pos timing.advance) (end_day timing.end)

-- Whether a day lies after the last day made, where one was made.
abbrev pub is_after : Option ℤ → ℤ → Bool
is_after None day = true
is_after (Some last) day = int_lt last day

-- Of these, an end after n occurrences keeps the first n less the number already made.
abbrev pub kept : End → ℕ → List ℤ → List ℤ
kept Never made days = days
kept (Until last) made days = days
kept (After count) made days = take (count - made) days

-- The days of a schedule that are due up to a day, in order: those of its recurrences that are later than the last day
-- made, not later than the day and the days in advance, and kept by the end (GnuCash Manual, scheduled transactions).
unfoldable pub due_days : Timing → ℤ → List ℤ
due_days timing upto =
    kept timing.end timing.made
    (filter (is_after timing.last) (days_of_all (last_day timing upto) timing.recurrences))
