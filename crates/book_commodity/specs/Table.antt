-- Tables: values under numbers, kept in rising order of the numbers, with room for more.
use Rattle.std.specs.Prelude.{ℕ, zero, suc, ◌≡◌, ◌<◌, ◌==◌, nat_lt, if◌then◌else◌, List, [], ◌∷◌, Option, Some, None, ⊤}

-- What contracts see of a table: its entries, each a number with its value, and how many more it has room for.
pub record Entries (T : Type 0) : Type 0 where
  pub entries : List (ℕ × T)
  pub spare : ℕ

-- Every number of the entries is above n.
abbrev pub AllAbove : {T : Type 0} → ℕ → List (ℕ × T) → Type 0
AllAbove n [] = ⊤
AllAbove n (e ∷ es) = (n < e.0) × AllAbove n es

-- The numbers rise from entry to entry, so that none comes twice.
abbrev pub Rises : {T : Type 0} → List (ℕ × T) → Type 0
Rises [] = ⊤
Rises (e ∷ es) = AllAbove e.0 es × Rises es

-- The value that stands under a number, if there is one: rising entries are a finite map.
abbrev pub value_of : {T : Type 0} → ℕ → List (ℕ × T) → Option T
value_of n [] = None
value_of n (e ∷ es) = if n == e.0 then Some e.1 else value_of n es

-- The entries with this value under a number: instead of the one that stood there, or else in the order of numbers.
abbrev pub with_entry : {T : Type 0} → ℕ → T → List (ℕ × T) → List (ℕ × T)
with_entry n v [] = (n, v) ∷ []
with_entry n v (e ∷ es) =
    if nat_lt n e.0 then (n, v) ∷ e ∷ es else (if n == e.0 then (n, v) ∷ es else e ∷ with_entry n v es)

-- The entries without the one under a number.
abbrev pub without_entry : {T : Type 0} → ℕ → List (ℕ × T) → List (ℕ × T)
without_entry n [] = []
without_entry n (e ∷ es) = if n == e.0 then es else e ∷ without_entry n es

-- The entry at a place has the number, and those before it smaller ones.
abbrev pub IsAt : {T : Type 0} → ℕ → List (ℕ × T) → ℕ → Type 0
IsAt n [] place = ⊥
IsAt n (e ∷ es) zero = e.0 ≡ n
IsAt n (e ∷ es) (suc place) = (e.0 < n) × IsAt n es place

-- No entry has the number: those before a place have smaller ones, those from it on greater ones.
abbrev pub IsGapFor : {T : Type 0} → ℕ → List (ℕ × T) → ℕ → Type 0
IsGapFor n es zero = AllAbove n es
IsGapFor n [] (suc place) = ⊥
IsGapFor n (e ∷ es) (suc place) = (e.0 < n) × IsGapFor n es place
