-- Amounts in a field: digits, a comma that always stands there, and digits (SWIFT, format d).
use Rattle.std.specs.Prelude.{ℕ, ◌≡◌, true, ◌==◌, Bool, ◌&&◌, List, position, is_some, ℤ, pos, neg_ℤ, if◌then◌else◌}
use Rattle.std.specs.List.{before_first, after_first}
use Rattle.book_statement.specs.Checks.{Check}
use Rattle.book_statement.specs.Numbers.{has_digits, units, unit_checks}

-- The comma, which marks the decimals of an amount (SWIFT, format d).
abbrev pub is_comma : ℕ → Bool
is_comma byte = byte == 44

-- An amount: 1 to 12 digits, a comma, and at most 9 digits (SWIFT, format d).
unfoldable pub is_amount : List ℕ → Bool
is_amount text =
    is_some (position is_comma text) && has_digits 1 12 (before_first is_comma text)
    && has_digits 0 9 (after_first is_comma text)

-- A text and what stands before and behind its first comma.
pub record IsParted (text whole decimals : List ℕ) : Type 0 where
  pub found : is_some (position is_comma text) ≡ true
  pub front : whole ≡ before_first is_comma text
  pub back : decimals ≡ after_first is_comma text

-- An amount in smallest units of a commodity with this fraction.
unfoldable pub amount : ℕ → List ℕ → ℕ
amount fraction text = units (before_first is_comma text) (after_first is_comma text) fraction

-- What is asked of an amount that has the form of one: a whole number of smallest units, at most 10^12 of them.
unfoldable pub amount_checks : ℕ → List ℕ → List Check
amount_checks fraction text = unit_checks (before_first is_comma text) (after_first is_comma text) fraction

-- An amount with its sign: negative or not by its mark.
abbrev pub signed : Bool → ℕ → ℤ
signed negative size = if negative then neg_ℤ (pos size) else pos size
