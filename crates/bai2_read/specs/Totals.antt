-- Sums of whole numbers over lists.
use Rattle.std.specs.Prelude.{List, [], ◌∷◌, ℤ, pos, ◌+ℤ◌}

-- The sum of a number over the items of a list.
abbrev pub total_over : {X : Type 0} → (X → ℤ) → List X → ℤ
total_over part [] = pos 0
total_over part (x ∷ xs) = part x +ℤ total_over part xs
