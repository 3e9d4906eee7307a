-- Amounts and totals: counts of smallest units with an optional sign (BAI2, amounts have implied decimals).
use Rattle.std.specs.Prelude.{ℕ, ◌==◌, nat_le, nat_lt, Bool, ◌&&◌, ◌||◌, List, length, drop, slice_index, Option, Some}
use Rattle.std.specs.Prelude.{None, if◌then◌else◌, ℤ, pos, negsuc, neg_ℤ, ◌≤ℤ◌}
use Rattle.book_statement.specs.Numbers.{has_digits, largest_amount, number}

-- A text without a plus or a minus in front.
abbrev pub without_sign : List ℕ → List ℕ
without_sign text = if slice_index text 0 == 43 || slice_index text 0 == 45 then drop 1 text else text

-- An optional sign and so many digits at most.
abbrev pub is_signed : ℕ → List ℕ → Bool
is_signed most text = has_digits 1 most (without_sign text)

-- The number that a sign and digits spell.
abbrev pub signed_number : List ℕ → ℤ
signed_number text =
    if slice_index text 0 == 45 then neg_ℤ (pos (number (without_sign text))) else pos (number (without_sign text))

-- An amount that is given is a sign and 1 to 15 digits, and at most 10^12 in size.
abbrev pub is_given : List ℕ → Bool
is_given text = is_signed 15 text && nat_le (number (without_sign text)) largest_amount

-- An amount is given or empty.
abbrev pub is_amount : List ℕ → Bool
is_amount text = length text == 0 || is_given text

-- The amount that a text spells; 0 where it is empty or none.
unfoldable pub amount : List ℕ → ℤ
amount text = if is_given text then signed_number text else pos 0

-- A number is at most 10^12 in size.
abbrev pub IsSmall : ℤ → Type 0
IsSmall given = (negsuc 999_999_999_999 ≤ℤ given) × (given ≤ℤ pos 1_000_000_000_000)

-- A control total is a sign and 1 to 18 digits.
abbrev pub is_total : List ℕ → Bool
is_total text = is_signed 18 text

-- The total that a text spells; 0 where it is none.
unfoldable pub total : List ℕ → ℤ
total text = if is_total text then signed_number text else pos 0

-- Detail types 100 to 399 are credits, and by a rule of this project 920 to 959 too.
abbrev pub is_credit : ℕ → Bool
is_credit type = (nat_le 100 type && nat_lt type 400) || (nat_le 920 type && nat_lt type 960)

-- Detail types 400 to 699 are debits, and by a rule of this project 960 to 999 too.
abbrev pub is_debit : ℕ → Bool
is_debit type = (nat_le 400 type && nat_lt type 700) || (nat_le 960 type && nat_lt type 1000)

-- The amount of a line with this detail type: a credit comes into the account, a debit leaves it; other types give no
-- line.
unfoldable pub line_amount : ℕ → ℤ → Option ℤ
line_amount type given =
    if is_credit type then Some given else (if is_debit type then Some (neg_ℤ given) else None)
