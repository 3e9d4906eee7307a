-- Numbers that rise.
use Rattle.std.specs.Prelude.{ℕ, ◌<◌, List, [], ◌∷◌, ⊤}

-- Each number of the list is below n.
abbrev pub AllUnder : ℕ → List ℕ → Type 0
AllUnder n [] = ⊤
AllUnder n (number ∷ more) = (number < n) × AllUnder n more

-- Each number of the list is above n.
abbrev pub AllOver : ℕ → List ℕ → Type 0
AllOver n [] = ⊤
AllOver n (number ∷ more) = (n < number) × AllOver n more

-- Each number is above the one before it.
abbrev pub Rise : List ℕ → Type 0
Rise [] = ⊤
Rise (number ∷ more) = AllOver number more × Rise more
