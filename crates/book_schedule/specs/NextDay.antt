-- The next day of a set, by which sets of days are gone through.
use Rattle.std.specs.Prelude.{ℕ, ◌≡◌, ◌-◌, ◌<◌, ◌≤◌, ◌⊎◌, min, List, [], ◌∷◌, length, Option, Some, None, ℤ, ◌≤ℤ◌}
use Rattle.std.specs.Int.{int_min}
use Rattle.book_schedule.specs.DueDays.{IsAfter}
use Rattle.book_schedule.specs.Recurrence.{nth_day}
use Rattle.book_schedule.specs.declared.recurrence.Recurrence.{Recurrence}
use Rattle.book_schedule.specs.declared.timing.End.{End}
use Rattle.book_schedule.specs.declared.timing.End.TheVariants.{Never, Until, After}

-- The first day of a set after a given one, or none where the set has none.
abbrev pub IsNext : (ℤ → Type 0) → Option ℤ → Option ℤ → Type 0
IsNext set after None = (day : ℤ) → set day → IsAfter after day → ⊥
IsNext set after (Some next) =
    set next × IsAfter after next × ((day : ℤ) → set day → IsAfter after day → next ≤ℤ day)

-- The occurrences before number k are not later than a given day.
pub record ArePassed (recurrence : Recurrence) (given : Option ℤ) (k : ℕ) : Type 0 where
  pub before : (j : ℕ) → j < k → IsAfter given (nth_day recurrence j) → ⊥

-- The earlier of two days, where both are given.
abbrev pub earlier_of : Option ℤ → Option ℤ → Option ℤ
earlier_of None other = other
earlier_of (Some day) None = Some day
earlier_of (Some day) (Some other) = Some (int_min day other)

-- Days of a set that follow one another after a given one, each the next after the one before, up to the last of them.
abbrev pub Follow : (ℤ → Type 0) → Option ℤ → List ℤ → Option ℤ → Type 0
Follow set after [] last = last ≡ after
Follow set after (day ∷ days) last = IsNext set after (Some day) × Follow set (Some day) days last

-- The first days of a set after a given one: so many, or all where the set has no more.
pub record AreFirst (set : ℤ → Type 0) (after : Option ℤ) (most : ℕ) (days : List ℤ) : Type 0 where
  pub last : Option ℤ
  pub follow : Follow set after days last
  pub count : length days ≤ most
  pub whole : (length days ≡ most) ⊎ IsNext set last None

-- How many days an end allows when so many were made, counted up to 1,001.
abbrev pub kept_at_most : End → ℕ → ℕ
kept_at_most Never made = 1001
kept_at_most (Until last) made = 1001
kept_at_most (After count) made = min (count - made) 1001
