-- Balances (SWIFT, MT940 fields 60, 62, 64 and 65): the mark C or D, the date YYMMDD, the currency, the amount.
use Rattle.std.specs.Prelude.{
  ℕ,
  ◌==◌,
  nat_eq,
  Bool,
  ◌&&◌,
  ◌||◌,
  List,
  [],
  ◌∷◌,
  length,
  is_some,
  unwrap_or,
  ℤ,
  pos,
  codes,
}
use Rattle.std.specs.Char.{is_ascii_uppercase}
use Rattle.std.specs.List.{list_all}
use lib.Pointwise.{pointwise}
use Rattle.book_statement.specs.declared.bad.Bad.TheVariants.{FieldForm, DateForm, AmountForm}
use Rattle.book_statement.specs.Checks.{Check, check}
use Rattle.book_statement.specs.Dates.{short_date}
use Rattle.book_statement.specs.Pieces.{after_chars, first_chars}
use Rattle.mt940_read.specs.Amounts.{is_amount, amount, signed}

-- The mark of a balance, its first character. The parts of a balance stand at places counted in characters.
unfoldable pub balance_mark : List ℕ → List ℕ
balance_mark text = first_chars 1 text

-- The date of a balance, YYMMDD: the six characters behind its mark.
unfoldable pub balance_date : List ℕ → List ℕ
balance_date text = first_chars 6 (after_chars 1 text)

-- The currency of a balance: the three characters behind its date.
unfoldable pub balance_currency : List ℕ → List ℕ
balance_currency text = first_chars 3 (after_chars 6 (after_chars 1 text))

-- The amount of a balance: all that stands behind its currency.
unfoldable pub balance_amount : List ℕ → List ℕ
balance_amount text = after_chars 3 (after_chars 6 (after_chars 1 text))

-- D marks a debit balance.
unfoldable pub is_debit : List ℕ → Bool
is_debit text = pointwise nat_eq (balance_mark text) (codes "D")

-- C marks a credit balance.
abbrev pub is_credit : List ℕ → Bool
is_credit text = pointwise nat_eq (balance_mark text) (codes "C")

-- The code of a currency is three capital letters (ISO 4217).
abbrev pub is_code : List ℕ → Bool
is_code text = (length text == 3) && list_all is_ascii_uppercase text

-- What is asked of the form of a balance: its mark and its currency, then its date, then its amount.
unfoldable pub balance_form : List ℕ → List Check
balance_form text =
    check ((is_credit text || is_debit text) && is_code (balance_currency text)) FieldForm
    ∷ check (is_some (short_date (balance_date text))) DateForm
    ∷ check (is_amount (balance_amount text)) AmountForm ∷ []

-- A balance in smallest units of a currency with this fraction, negative for a debit.
unfoldable pub balance : ℕ → List ℕ → ℤ
balance fraction text = signed (is_debit text) (amount fraction (balance_amount text))

-- The day of a balance; it only matters where its date is one.
unfoldable pub balance_day : List ℕ → ℤ
balance_day text = unwrap_or (short_date (balance_date text)) (pos 0)
