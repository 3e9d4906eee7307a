-- What is made of the lines of a whole book: the line of each matched split.
use Rattle.std.specs.Prelude.{◌≡◌, ℕ, nat_lt, if◌then◌else◌, true, List, [], ◌∷◌, flat_map, Some}
use Rattle.book_commodity.specs.Table.{Rises, value_of}
use Rattle.book_statement.specs.declared.line.Line.{Line}
use Rattle.book_free.specs.FreeSplits.{has_matched}
use Rattle.book_free.specs.Seen.{line_entries}

-- No two lines are matched with one split.
pub record AreMatchedOnce (lines : List (ℕ × Line)) : Type 0 where
  pub rise : Rises lines
  pub once :
      (split n m : ℕ) (one other : Line) → value_of n lines ≡ Some one → has_matched split one.state ≡ true
      → value_of m lines ≡ Some other → has_matched split other.state ≡ true → n ≡ m

-- The numbers of the matched splits, each with that of its line.
abbrev pub line_pairs : List (ℕ × Line) → List (ℕ × ℕ)
line_pairs lines = flat_map (λ entry. line_entries entry.0 (Some entry.1)) lines

-- Pairs with one more, in front of the first whose first number isn't smaller, and pairs in that order.
abbrev pub with_pair : ℕ × ℕ → List (ℕ × ℕ) → List (ℕ × ℕ)
with_pair pair [] = pair ∷ []
with_pair pair (first ∷ more) =
    if nat_lt first.0 pair.0 then first ∷ with_pair pair more else pair ∷ first ∷ more

abbrev pub in_order : List (ℕ × ℕ) → List (ℕ × ℕ)
in_order [] = []
in_order (pair ∷ more) = with_pair pair (in_order more)
