-- The size of a scaled amount, and the powers of ten.
use Rattle.std.proofs.Common.{◌≡◌, ℕ, zero, suc, ◌+◌, ◌^◌, ◌<◌, Bool, true, ◌&&◌, eqb, List, [], ◌∷◌, length, get_or}
use Rattle.std.proofs.Common.{refl, arith, ℤ, pos, negsuc, unsigned_abs}
use Rattle.std.proofs.lemmas.Bool.Decides.{nat_tests}
use Rattle.book_commodity.specs.Amount.{with_sign_of, powers_of_ten}

-- the sign leaves the size
pub size_with_sign : (amount : ℤ) (size : ℕ) → unsigned_abs (with_sign_of amount size) ≡ size
size_with_sign (pos _) size = refl
size_with_sign (negsuc _) zero = refl
size_with_sign (negsuc _) (suc size) = refl

are_powers : ℕ → List ℕ → Bool
are_powers first [] = true
are_powers first (p ∷ ps) = eqb p (10 ^ first) && are_powers (suc first) ps

power_from :
    (first place : ℕ) (ps : List ℕ) → are_powers first ps ≡ true → place < length ps
    → get_or ps place 0 ≡ 10 ^ (place + first)
unfolding are_powers
power_from first place [] h lt = absurd (omega arith)
power_from first zero (p ∷ ps) h lt =
    let same : zero + first ≡ first = omega arith in rw same (grind (arith, nat_tests))
power_from first (suc place) (p ∷ ps) h lt =
    let same : suc place + first ≡ place + suc first = omega arith in
    rw same (power_from (suc first) place ps (grind (arith, nat_tests)) (omega arith))

-- the kth of the powers of ten is 10^k
pub power_at : (place : ℕ) → place < 20 → get_or powers_of_ten place 0 ≡ 10 ^ place
unfolding are_powers
power_at place lt =
    let same : place + 0 ≡ place = omega arith in rw same at (power_from 0 place powers_of_ten refl lt)

ten_positive : (n : ℕ) → 0 < 10 ^ n
ten_positive zero = omega arith
ten_positive (suc n) = omega (arith, ten_positive n)

pub power_positive : (place : ℕ) → place < 20 → 0 < get_or powers_of_ten place 0
power_positive place lt = rw (power_at place lt) (ten_positive place)
