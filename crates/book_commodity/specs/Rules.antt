-- Rules that are asked one after another, of which the first that is broken counts; and the rules that things keep.
use Rattle.std.specs.Prelude.{◌≡◌, ◌≤◌, ⊤, ℕ, nat_lt, length, Bool, true, false, ◌&&◌, List, [], ◌∷◌, Option, Some}
use Rattle.std.specs.Prelude.{None, Result, MatchResult, IsTrue}
use Rattle.std.specs.List.{list_any}
use Rattle.book_commodity.specs.Table.{Rises, value_of}

-- A rule that is broken under a condition.
abbrev pub broken_where : {R : Type 0} → Bool → R → Option R
broken_where true rule = Some rule
broken_where false rule = None

-- The first rule of the list that is broken, if one is.
abbrev pub first_broken : {R : Type 0} → List (Option R) → Option R
first_broken [] = None
first_broken (Some rule ∷ more) = Some rule
first_broken (None ∷ more) = first_broken more

-- What a check of rules answers: Ok exactly where none is broken, and else the first that is.
abbrev pub ReportsFirst : {T R : Type 0} → List (Option R) → Result T R → Type 0
ReportsFirst rules result = MatchResult result (λ _. first_broken rules ≡ None) (λ rule. first_broken rules ≡ Some rule)

-- Each rule of the list is kept: none is broken.
abbrev pub AllKept : {R : Type 0} → List (Option R) → Type 0
AllKept [] = ⊤
AllKept (rule ∷ more) = (rule ≡ None) × AllKept more

-- Each test of the list holds.
abbrev pub AllHold : List Bool → Type 0
AllHold [] = ⊤
AllHold (test ∷ more) = IsTrue test × AllHold more

-- Whether a thing with a smaller number passes the test. What may stand once is broken at the greater of two numbers:
-- the thing there has one before it.
abbrev pub stands_before : {T : Type 0} → (T → Bool) → ℕ → List (ℕ × T) → Bool
stands_before test number entries = list_any (λ entry. nat_lt entry.0 number && test entry.1) entries

-- Every thing of a table keeps the rules that are given for its number and for it.
pub record EachKeeps {T : Type 0} (rules : ℕ → T → List Bool) (entries : List (ℕ × T)) : Type 0 where
  pub each : (number : ℕ) (thing : T) → value_of number entries ≡ Some thing → AllHold (rules number thing)

-- A table is sound: its numbers rise, so that none stands twice; every thing keeps its rules; and there are at most so
-- many.
pub record IsSoundTable {T : Type 0} (rules : ℕ → T → List Bool) (most : ℕ) (entries : List (ℕ × T)) : Type 0 where
  pub rise : Rises entries
  pub keep : EachKeeps rules entries
  pub few : length entries ≤ most
