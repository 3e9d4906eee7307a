-- A line of a statement (SWIFT, MT940 field 61): value date, [entry date], mark, [funds code], amount, type,
-- references.
use Rattle.std.specs.Prelude.{
  ℕ,
  ◌+◌,
  ◌-◌,
  ◌==◌,
  nat_eq,
  Bool,
  not,
  Option,
  Some,
  None,
  ◌&&◌,
  ◌||◌,
  List,
  [],
  ◌∷◌,
  length,
  take,
  drop,
  slice_index,
  is_some,
  unwrap_or,
  if◌then◌else◌,
  ℤ,
  pos,
  codes,
}
use Rattle.std.specs.Char.{is_ascii_digit, is_ascii_uppercase}
use Rattle.std.specs.List.{list_all, prefix_len, starts_with}
use lib.Pointwise.{pointwise}
use Rattle.book_statement.specs.declared.bad.Bad.TheVariants.{FieldForm, DateForm, AmountForm}
use Rattle.book_statement.specs.declared.statement_line.StatementLine.{StatementLine}
use Rattle.book_statement.specs.Checks.{Check, check}
use Rattle.book_statement.specs.Dates.{short_date}
use Rattle.book_statement.specs.Numbers.{has_digits}
use Rattle.book_statement.specs.Pieces.{after_chars}
use Rattle.book_statement.specs.Texts.{is_nothing, joined, add_piece}
use Rattle.mt940_read.specs.Amounts.{is_comma, is_amount, amount, signed}
use Rattle.mt940_read.specs.EntryDate.{entry_date}

-- How long the entry date is: four digits, or nothing (SWIFT, MT940 field 61, subfield 2).
abbrev pub entry_len : List ℕ → ℕ
entry_len text = if has_digits 4 4 (take 4 text) then 4 else 0

-- How long the mark is: RC and RD for reversals, else C and D (subfield 3).
abbrev pub mark_len : List ℕ → ℕ
mark_len text =
    if starts_with nat_eq text (codes "RC") || starts_with nat_eq text (codes "RD") then 2
    else (if starts_with nat_eq text (codes "C") || starts_with nat_eq text (codes "D") then 1 else 0)

-- How long the funds code is: a capital letter behind the mark, or nothing (subfield 4).
abbrev pub funds_len : List ℕ → ℕ
funds_len text = if is_ascii_uppercase (slice_index text 0) then 1 else 0

-- How long the amount is: the longest run of digits and commas (subfield 5).
abbrev pub amount_len : List ℕ → ℕ
amount_len text = prefix_len (λ byte. is_ascii_digit byte || is_comma byte) text

-- Where the entry date begins: behind the value date, which is six characters long (subfield 1).
unfoldable pub entry_place : List ℕ → ℕ
entry_place text = length text - length (after_chars 6 text)

-- Where the mark begins: behind the entry date.
unfoldable pub mark_place : List ℕ → ℕ
mark_place text = entry_place text + entry_len (drop (entry_place text) text)

-- Where the funds code begins: behind the mark.
unfoldable pub funds_place : List ℕ → ℕ
funds_place text = mark_place text + mark_len (drop (mark_place text) text)

-- Where the amount begins: behind the funds code.
unfoldable pub amount_place : List ℕ → ℕ
amount_place text = funds_place text + funds_len (drop (funds_place text) text)

-- Where the type begins: behind the amount.
unfoldable pub kind_place : List ℕ → ℕ
kind_place text = amount_place text + amount_len (drop (amount_place text) text)

-- What stands between two places of a text.
abbrev pub between : List ℕ → ℕ → ℕ → List ℕ
between text from to = take (to - from) (drop from text)

-- The value date of a line.
abbrev pub value_part : List ℕ → List ℕ
value_part text = take (entry_place text) text

-- The entry date of a line; empty where it has none.
abbrev pub entry_part : List ℕ → List ℕ
entry_part text = between text (entry_place text) (mark_place text)

-- The mark of a line; empty where it has none.
abbrev pub mark_part : List ℕ → List ℕ
mark_part text = between text (mark_place text) (funds_place text)

-- The amount of a line.
abbrev pub amount_part : List ℕ → List ℕ
amount_part text = between text (amount_place text) (kind_place text)

-- The type of a line, four characters (subfield 6).
abbrev pub kind_part : List ℕ → List ℕ
kind_part text = take 4 (drop (kind_place text) text)

-- The references of a line: all that stands behind its type (subfields 7 and 8).
abbrev pub references : List ℕ → List ℕ
references text = drop (kind_place text + 4) text

-- A capital letter or a digit.
abbrev pub is_kind_byte : ℕ → Bool
is_kind_byte byte = is_ascii_uppercase byte || is_ascii_digit byte

-- A type is a capital letter and three capital letters or digits.
abbrev pub is_kind : List ℕ → Bool
is_kind text =
    (length text == 4) && is_ascii_uppercase (slice_index text 0)
    && list_all is_kind_byte text

-- The reference of the account's owner: what stands before the first double slash (subfield 7).
abbrev pub before_slashes : List ℕ → List ℕ
before_slashes [] = []
before_slashes (b ∷ bs) = if starts_with nat_eq (b ∷ bs) (codes "//") then [] else b ∷ before_slashes bs

-- The bank's reference: what stands behind the first double slash, or nothing (subfield 8).
abbrev pub behind_slashes : List ℕ → List ℕ
behind_slashes [] = []
behind_slashes (b ∷ bs) = if starts_with nat_eq (b ∷ bs) (codes "//") then drop 1 bs else behind_slashes bs

-- The value day of a line; it only matters where its value date is one.
unfoldable pub value_day : List ℕ → ℤ
value_day text = unwrap_or (short_date (value_part text)) (pos 0)

-- The day of a line: its entry date, or else its value date.
unfoldable pub line_day : List ℕ → ℤ
line_day text =
    if is_nothing (entry_part text) then value_day text
    else unwrap_or (entry_date (value_part text) (value_day text) (entry_part text)) (pos 0)

-- An entry date is left out, or names a day beside the value date.
abbrev pub has_entry_date : List ℕ → Bool
has_entry_date text =
    is_nothing (entry_part text) || is_some (entry_date (value_part text) (value_day text) (entry_part text))

-- The day and the value day of a line, where neither date is broken.
unfoldable pub line_days : List ℕ → Option (ℤ × ℤ)
line_days text =
    if is_some (short_date (value_part text))
    && has_entry_date text then Some (line_day text, value_day text) else None

-- What is asked of the form of a line: its mark and its type, then its dates, then its amount.
unfoldable pub line_form : List ℕ → List Check
line_form text =
    check (not (is_nothing (mark_part text)) && is_kind (kind_part text)) FieldForm
    ∷ check (is_some (line_days text)) DateForm
    ∷ check (is_amount (amount_part text)) AmountForm ∷ []

-- A debit (D) and the reversal of a credit (RC) take from the account.
unfoldable pub is_taken : List ℕ → Bool
is_taken text = pointwise nat_eq (mark_part text) (codes "D") || pointwise nat_eq (mark_part text) (codes "RC")

-- The amount of a line in smallest units of a currency with this fraction, negative where it takes from the account.
unfoldable pub line_amount : ℕ → List ℕ → ℤ
line_amount fraction text = signed (is_taken text) (amount fraction (amount_part text))

-- The line that a field 61 gives, with the pieces of its text.
unfoldable pub line : ℕ → List ℕ → List (List ℕ) → StatementLine
line fraction text pieces = record {
  day = line_day text;
  value_day = value_day text;
  amount = line_amount fraction text;
  kind = kind_part text;
  ref_own = before_slashes (references text);
  ref_bank = behind_slashes (references text);
  text = joined pieces;
  category = [];
  parts = [];
}

-- A line with a piece more at the end of its text.
abbrev pub add_text : List ℕ → StatementLine → StatementLine
add_text piece given = record given { text = add_piece given.text piece }
