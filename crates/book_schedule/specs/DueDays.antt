-- The due days of a schedule: which of the days of its recurrences are still to be made up to a day
-- (GnuCash Manual, scheduled transactions).
use Rattle.std.specs.Prelude.{ℕ, ◌≡◌, ◌-◌, List, [], ◌∷◌, length, Option, Some, None, ℤ, pos, ◌+ℤ◌, ◌<ℤ◌, ◌≤ℤ◌, All}
use Rattle.std.specs.Prelude.{◌↔◌, ⊤}
use Rattle.std.specs.List.{Any, Contains}
use Rattle.book_schedule.specs.Recurrence.{OccursOn}
use Rattle.book_schedule.specs.declared.recurrence.Recurrence.{Recurrence}
use Rattle.book_schedule.specs.declared.timing.End.{End}
use Rattle.book_schedule.specs.declared.timing.End.TheVariants.{Never, Until, After}
use Rattle.book_schedule.specs.declared.timing.Timing.{Timing}

-- A day lies before all of these.
abbrev pub IsBeforeAll : ℤ → List ℤ → Type 0
IsBeforeAll day [] = ⊤
IsBeforeAll day (later ∷ days) = (day <ℤ later) × IsBeforeAll day days

-- The days rise, so that none comes twice.
abbrev pub Rises : List ℤ → Type 0
Rises [] = ⊤
Rises (day ∷ days) = IsBeforeAll day days × Rises days

-- The set has at least so many days.
abbrev pub HasAtLeast : ℕ → (ℤ → Type 0) → Type 0
HasAtLeast count set = (days : List ℤ) × Rises days × All set days × (length days ≡ count)

-- A day lies after a given one, and after none where none is given.
abbrev pub IsAfter : Option ℤ → ℤ → Type 0
IsAfter None day = ⊤
IsAfter (Some last) day = last <ℤ day

-- Some recurrence of the list has an occurrence on the day.
abbrev pub IsOnSome : List Recurrence → ℤ → Type 0
IsOnSome recurrences day = Any (λ recurrence. OccursOn recurrence day) recurrences

-- An end by date keeps the days up to it.
abbrev pub IsUpTo : End → ℤ → Type 0
IsUpTo Never day = ⊤
IsUpTo (Until last) day = day ≤ℤ last
IsUpTo (After count) day = ⊤

-- A day is not later than the given one and the days in advance, nor than the end.
abbrev pub IsWithin : Timing → ℤ → ℤ → Type 0
IsWithin timing upto day = (day ≤ℤ (upto +ℤ pos timing.advance)) × IsUpTo timing.end day

-- A day of the recurrences, made or not, up to a day and the days in advance.
abbrev pub IsPlanned : Timing → ℤ → ℤ → Type 0
IsPlanned timing upto day = IsOnSome timing.recurrences day × IsWithin timing upto day

-- Of these, a day later than the last day made is still to be made.
abbrev pub IsOpen : Timing → ℤ → ℤ → Type 0
IsOpen timing upto day = IsPlanned timing upto day × IsAfter timing.last day

-- An end after n occurrences keeps the first n less the number already made: fewer than so many of the set lie before
-- the day.
abbrev pub IsAllowed : End → ℕ → (ℤ → Type 0) → ℤ → Type 0
IsAllowed Never made set day = ⊤
IsAllowed (Until last) made set day = ⊤
IsAllowed (After count) made set day = HasAtLeast (count - made) (λ earlier. set earlier × (earlier <ℤ day)) → ⊥

-- A day is due where it is still to be made, and allowed by the end.
abbrev pub IsDue : Timing → ℤ → ℤ → Type 0
IsDue timing upto day = IsOpen timing upto day × IsAllowed timing.end timing.made (IsOpen timing upto) day

-- The list of a set of days, in order and each once.
pub record Lists (set : ℤ → Type 0) (days : List ℤ) : Type 0 where
  pub rising : Rises days
  pub each : (day : ℤ) → Contains days day ↔ set day
