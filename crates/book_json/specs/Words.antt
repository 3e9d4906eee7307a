-- Tables of words: each row is a word and the value that it stands for.
use Rattle.std.specs.Prelude.{ℕ, List, [], ◌∷◌, map, Bool, bytes_eq, if◌then◌else◌, Option, Some, None}
use Rattle.std.specs.Borrow.{Bor}

-- The value of the first row with that word; words are compared byte for byte.
abbrev pub named : {X : Type 0} → List (List ℕ × X) → List ℕ → Option X
named [] text = None
named (row ∷ rows) text = if bytes_eq text row.0 then Some row.1 else named rows text

-- The word of the first row with that value, empty where no row has it; `same` says whether two values are one.
abbrev pub word_of : {X : Type 0} → (X → X → Bool) → List (List ℕ × X) → X → List ℕ
word_of same [] value = []
word_of same (row ∷ rows) value = if same row.1 value then row.0 else word_of same rows value

-- The rows of a table in the code.
abbrev pub rows_of : {X : Type 0} → List (Bor (List ℕ) × X) → List (List ℕ × X)
rows_of table = map (λ row. (row.0.now, row.1)) table
