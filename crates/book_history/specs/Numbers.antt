-- Numbers that follow one another, and entries that are taken one after another.
use Rattle.std.specs.Prelude.{ℕ, zero, suc, List, [], ◌∷◌}
use Rattle.book_commodity.specs.Table.{without_entry}

-- So many numbers that follow one another, from a first one on.
abbrev pub numbers_from : ℕ → ℕ → List ℕ
numbers_from first zero = []
numbers_from first (suc count) = first ∷ numbers_from (suc first) count

-- The entries without those under some numbers, which are taken one after another.
abbrev pub without_all : {T : Type 0} → List ℕ → List (ℕ × T) → List (ℕ × T)
without_all [] entries = entries
without_all (number ∷ numbers) entries = without_all numbers (without_entry number entries)
