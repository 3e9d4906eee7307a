-- The days for which a schedule will post, however far they lie ahead (GnuCash Manual, scheduled transactions).
use Rattle.std.specs.Prelude.{ℕ, ◌<◌, ⊤, ◌≤ℤ◌, List, [], ◌∷◌, Option, Some, None, ℤ, pos}
use Rattle.book_schedule.specs.DueDays.{IsAfter, IsAllowed, IsOnSome, IsUpTo}
use Rattle.book_schedule.specs.declared.timing.End.{End}
use Rattle.book_schedule.specs.declared.timing.End.TheVariants.{Never, Until, After}
use Rattle.book_schedule.specs.declared.timing.Timing.{Timing}

-- A day of the recurrences that is still to be made: it is not later than an end by date, and later than the last day
-- made.
abbrev pub IsLeft : Timing → ℤ → Type 0
IsLeft timing day = IsOnSome timing.recurrences day × IsUpTo timing.end day × IsAfter timing.last day

-- A schedule will post for a day that is still to be made and that an end after some occurrences allows.
abbrev pub WillPost : Timing → ℤ → Type 0
WillPost timing day = IsLeft timing day × IsAllowed timing.end timing.made (IsLeft timing) day

-- The first of these days; none, where a schedule has ended.
abbrev pub IsNextDay : Timing → Option ℤ → Type 0
IsNextDay timing None = (day : ℤ) → WillPost timing day → ⊥
IsNextDay timing (Some next) = WillPost timing next × ((day : ℤ) → WillPost timing day → next ≤ℤ day)

-- ---- how it is found, which is the code's own: the one day that is due where an end after one more occurrence stands
-- in place of the schedule's

-- An end allows one more occurrence: the code's own test.
abbrev pub HasMore : End → ℕ → Type 0
HasMore Never made = ⊤
HasMore (Until last) made = ⊤
HasMore (After count) made = made < count

-- The timing that allows one more occurrence and no other, and makes none in advance: the code's own.
abbrev pub with_one : Timing → Timing
with_one timing = record {
  recurrences = timing.recurrences;
  end = After 1;
  advance = 0;
  last = timing.last;
  made = 0;
}

-- The last day that is asked for: that of an end by date, or the last day of a book. It is the code's own.
abbrev pub last_asked : End → ℤ
last_asked Never = pos 84005
last_asked (Until last) = last
last_asked (After count) = pos 84005

-- The first of the days; none, where there is none. It is the code's own.
abbrev pub first_of : List ℤ → Option ℤ
first_of [] = None
first_of (day ∷ days) = Some day
