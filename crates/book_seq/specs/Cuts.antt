-- Where the first entries end that pass a test, in a list where those that pass it come first.
use Rattle.std.specs.Prelude.{◌≡◌, ⊤, ℕ, zero, suc, Bool, true, false, List, [], ◌∷◌}
use Rattle.book_seq.specs.Chunks.{Piece}

-- No entry passes the test.
abbrev pub NonePasses : {E : Type 0} → (E → Bool) → List E → Type 0
NonePasses passes [] = ⊤
NonePasses passes (entry ∷ more) = (passes entry ≡ false) × NonePasses passes more

-- The entries that pass the test come first: behind one that doesn't, none does.
abbrev pub IsParted : {E : Type 0} → (E → Bool) → List E → Type 0
IsParted passes [] = ⊤
IsParted passes (entry ∷ more) = (passes entry ≡ false → NonePasses passes more) × IsParted passes more

-- So many first entries pass the test, and no other does.
abbrev pub IsCut : {E : Type 0} → (E → Bool) → List E → ℕ → Type 0
IsCut passes entries zero = NonePasses passes entries
IsCut passes [] (suc count) = ⊥
IsCut passes (entry ∷ more) (suc count) = (passes entry ≡ true) × IsCut passes more count

-- Whether there is a last entry and it passes: the code's own.
abbrev pub last_passes : {E : Type 0} → (E → Bool) → List E → Bool
last_passes passes [] = false
last_passes passes (entry ∷ []) = passes entry
last_passes passes (entry ∷ next ∷ more) = last_passes passes (next ∷ more)

-- The same for the entries of a chunk.
abbrev pub is_passed : {E : Type 0} → (E → Bool) → Piece E → Bool
is_passed passes piece = last_passes passes piece.entries
