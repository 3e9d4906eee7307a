-- Amounts in QIF files, as -1,234.50 (Quicken's description of QIF, T).
use Rattle.std.specs.Prelude.{ℕ, ◌==◌, Bool, true, ◌&&◌, ◌||◌, not, List, [], ◌∷◌, filter, slice_index, if◌then◌else◌}
use Rattle.std.specs.Prelude.{ℤ, pos, neg_ℤ}
use Rattle.std.specs.Char.{is_ascii_digit}
use Rattle.std.specs.List.{before_first, after_first, prefix_len}
use Rattle.book_statement.specs.Checks.{Check, check}
use Rattle.book_statement.specs.Numbers.{has_digits, units, unit_checks}
use Rattle.book_statement.specs.Texts.{is_nothing}
use Rattle.book_statement.specs.declared.bad.Bad.TheVariants.{AmountForm}

-- An amount below zero begins with a minus.
abbrev pub is_negative : List ℕ → Bool
is_negative text = slice_index text 0 == 45

-- What stands behind the sign, if there is one.
unfoldable pub unsigned : List ℕ → List ℕ
unsigned [] = []
unsigned (b ∷ bs) = if (b == 43) || (b == 45) then bs else b ∷ bs

-- What stands before the point.
unfoldable pub whole_part : List ℕ → List ℕ
whole_part text = before_first (λ b. b == 46) (unsigned text)

-- What stands behind the point.
unfoldable pub decimal_part : List ℕ → List ℕ
decimal_part text = after_first (λ b. b == 46) (unsigned text)

-- A comma stands only where exactly three digits follow up to the next comma or the end.
unfoldable pub are_commas_placed : List ℕ → Bool
are_commas_placed [] = true
are_commas_placed (b ∷ bs) = (not (b == 44) || (prefix_len is_ascii_digit bs == 3)) && are_commas_placed bs

-- A whole part without its commas.
unfoldable pub without_commas : List ℕ → List ℕ
without_commas text = filter (λ b. not (b == 44)) text

-- The digits of the whole part.
abbrev pub whole_digits : List ℕ → List ℕ
whole_digits text = without_commas (whole_part text)

-- A whole part of up to 12 digits, which may have commas, and up to 9 decimals; one digit at least.
unfoldable pub is_number : List ℕ → List ℕ → Bool
is_number whole decimals =
    are_commas_placed whole && (has_digits 0 12 (without_commas whole) && (has_digits 0 9 decimals
    && not (is_nothing (without_commas whole) && is_nothing decimals)))

-- What is asked of a number: its form, that it is a whole number of smallest units, and its size.
abbrev pub number_checks : ℕ → List ℕ → List ℕ → List Check
number_checks fraction whole decimals =
    check (is_number whole decimals) AmountForm ∷ unit_checks (without_commas whole) decimals fraction

-- What is asked of an amount.
unfoldable pub amount_checks : ℕ → List ℕ → List Check
amount_checks fraction text = number_checks fraction (whole_part text) (decimal_part text)

-- A number with a sign.
abbrev pub signed : Bool → ℕ → ℤ
signed negative size = if negative then neg_ℤ (pos size) else pos size

-- The amount in smallest units of a commodity with this fraction; it only matters where nothing is wrong with it.
unfoldable pub amount : ℕ → List ℕ → ℤ
amount fraction text =
    signed (is_negative text) (units (whole_digits text) (decimal_part text) fraction)
