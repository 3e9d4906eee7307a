-- Sums of the weights of entries. An entry has three weights, and each is added up by itself.
use Rattle.std.specs.Prelude.{◌≡◌, ℕ, ◌*◌, ◌^◌, ℤ, pos, ◌+ℤ◌, ◌-ℤ◌, ◌≤ℤ◌, List, [], ◌∷◌, ⊤}
use Rattle.book_seq.specs.declared.sums.Sums.{Sums}

-- The three numbers in order.
abbrev pub listed : Sums → List ℤ
listed s = s.first ∷ s.second ∷ s.third ∷ []

-- The sums of no entries.
abbrev pub no_sums : Sums
no_sums = record { first = pos 0; second = pos 0; third = pos 0 }

-- Each of the three with that of the other.
abbrev pub sum : Sums → Sums → Sums
sum s t = record { first = s.first +ℤ t.first; second = s.second +ℤ t.second; third = s.third +ℤ t.third }

-- Each of the three without that of the other.
abbrev pub difference : Sums → Sums → Sums
difference s t = record { first = s.first -ℤ t.first; second = s.second -ℤ t.second; third = s.third -ℤ t.third }

-- The sums of the weights of these entries.
abbrev pub sums_of : {E : Type 0} → (E → Sums) → List E → Sums
sums_of weights [] = no_sums
sums_of weights (entry ∷ more) = sum (weights entry) (sums_of weights more)

-- The amount is small enough to be the sum of so many amounts of 64 bits.
abbrev pub IsWithin : ℕ → ℤ → Type 0
IsWithin count amount = ((pos 0 -ℤ pos (2 ^ 63 * count)) ≤ℤ amount) × (amount ≤ℤ pos (2 ^ 63 * count))

-- So is each of the three.
abbrev pub AreWithin : ℕ → Sums → Type 0
AreWithin count s = IsWithin count s.first × (IsWithin count s.second × IsWithin count s.third)

-- Each weight of the entries is an amount of 64 bits.
abbrev pub AreBounded : {E : Type 0} → (E → Sums) → List E → Type 0
AreBounded weights [] = ⊤
AreBounded weights (entry ∷ more) = AreWithin 1 (weights entry) × AreBounded weights more

-- These are the sums of the entries.
pub record AreKept {E : Type 0} (weights : E → Sums) (entries : List E) (kept : Sums) : Type 0 where
  pub sums : kept ≡ sums_of weights entries
  pub bounded : AreBounded weights entries
