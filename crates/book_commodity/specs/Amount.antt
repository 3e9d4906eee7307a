-- Amounts: whole counts of smallest units, their scaling from one commodity to another, and their text.
use Rattle.std.specs.Prelude.{ℕ, zero, suc, ◌+◌, ◌*◌, ◌/◌, ◌%◌, ◌^◌, ◌==◌, List, [], ◌∷◌, ◌++◌, Option, Some, None}
use Rattle.std.specs.Prelude.{position, ℤ, pos, negsuc, neg_ℤ, unsigned_abs}
use Rattle.std.specs.Fmt.{decimal, signed_decimal}

-- The whole number nearest to a quotient, the greater one where it lies halfway.
abbrev pub nearest : ℕ → ℕ → ℕ
nearest dividend divisor = (2 * dividend + divisor) / (2 * divisor)

-- The number of this size that is negative where the amount is.
abbrev pub with_sign_of : ℤ → ℕ → ℤ
with_sign_of (pos _) size = pos size
with_sign_of (negsuc _) size = neg_ℤ (pos size)

-- An amount at a rate of num to denom units, in the smallest units of the other commodity; halves go away from zero.
unfoldable pub scaled : ℤ → ℕ → ℕ → ℕ → ℕ → ℤ
scaled amount num denom from_fraction to_fraction =
    with_sign_of amount (nearest (unsigned_abs amount * num * to_fraction) (denom * from_fraction))

-- The powers of ten that a fraction can be.
abbrev pub powers_of_ten : List ℕ
powers_of_ten =
    1 ∷ 10 ∷ 100 ∷ 1_000 ∷ 10_000 ∷ 100_000 ∷ 1_000_000 ∷ 10_000_000 ∷ 100_000_000 ∷ 1_000_000_000 ∷ 10_000_000_000
    ∷ 100_000_000_000 ∷ 1_000_000_000_000 ∷ 10_000_000_000_000 ∷ 100_000_000_000_000 ∷ 1_000_000_000_000_000
    ∷ 10_000_000_000_000_000 ∷ 100_000_000_000_000_000 ∷ 1_000_000_000_000_000_000 ∷ 10_000_000_000_000_000_000 ∷ []

-- How many decimals a fraction stands for: k where it is the kth power of ten, and none for another fraction.
unfoldable pub decimals_of : ℕ → Option ℕ
decimals_of fraction = position (λ power. power == fraction) powers_of_ten

-- The lowest digits of a number, so many of them, from the highest place on.
abbrev pub lowest_digits : ℕ → ℕ → List ℕ
lowest_digits zero n = []
lowest_digits (suc places) n = (48 + n / 10 ^ places % 10) ∷ lowest_digits places n

-- A point with so many decimals behind it, and nothing for no decimals.
abbrev pub decimals : ℕ → ℕ → List ℕ
decimals zero n = []
decimals (suc places) n = 46 ∷ lowest_digits (suc places) n

-- A minus sign before a negative amount.
abbrev pub minus_sign : ℤ → List ℕ
minus_sign (pos _) = []
minus_sign (negsuc _) = 45 ∷ []

-- An amount as a decimal number of whole units.
abbrev pub decimal_amount : ℤ → ℕ → List ℕ
decimal_amount amount places =
    minus_sign amount ++ (decimal (unsigned_abs amount / 10 ^ places) ++ decimals places (unsigned_abs amount))

-- The text of an amount with a known or unknown number of decimals: where unknown, the count, a slash, the fraction.
abbrev pub amount_text_by : Option ℕ → ℤ → ℕ → List ℕ
amount_text_by (Some places) amount fraction = decimal_amount amount places
amount_text_by None amount fraction = signed_decimal amount ++ (47 ∷ decimal fraction)

-- The text of an amount of a commodity with this fraction.
unfoldable pub amount_text : ℤ → ℕ → List ℕ
amount_text amount fraction = amount_text_by (decimals_of fraction) amount fraction
