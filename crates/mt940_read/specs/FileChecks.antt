-- The checks of a field, in the order in which they are asked. Each is a condition on the tree of the file: on the
-- field, the fields before it in its message, and the messages before that one.
use Rattle.std.specs.Prelude.{
  ℕ,
  ◌+◌,
  nat_lt,
  Bool,
  true,
  false,
  not,
  ◌||◌,
  List,
  [],
  ◌∷◌,
  ◌++◌,
  length,
  is_some,
  if◌then◌else◌,
  ℤ,
}
use Rattle.std.specs.Ordering.{int_eq}
use Rattle.book_commodity.specs.declared.commodity.Commodity.{Commodity}
use Rattle.book_statement.specs.declared.bad.Bad.TheVariants.{
  FieldOrder,
  FieldForm,
  UnknownCurrency,
  CurrencyDiffers,
  PageOrder,
  BalanceMismatch,
  TooMany,
}
use Rattle.book_statement.specs.Checks.{Check, check}
use Rattle.book_statement.specs.Currencies.{fraction_of}
use Rattle.book_statement.specs.Keys.{same_text}
use Rattle.book_statement.specs.Texts.{is_nothing}
use Rattle.mt940_read.specs.declared.tag.Tag.{Tag}
use Rattle.mt940_read.specs.declared.tag.Tag.TheVariants.{
  Reference,
  Related,
  Account,
  Number,
  Opening,
  Line,
  Text,
  Closing,
  Available,
  Forward,
}
use Rattle.mt940_read.specs.Amounts.{amount_checks}
use Rattle.mt940_read.specs.Balances.{balance, balance_form, balance_amount, balance_currency}
use Rattle.mt940_read.specs.Entries.{fraction_in, fraction_behind, last_tag}
use Rattle.mt940_read.specs.LineField.{line_form, amount_part}
use Rattle.mt940_read.specs.Messages.{account_of, currency_of, opens_page, closing_of, lines_in, closing_due}
use Rattle.mt940_read.specs.Order.{may_follow}
use Rattle.mt940_read.specs.Statements.{belongs, goes_on_from, statements_of, last_lines}
use Rattle.mt940_read.specs.Tree.{FieldLines, MessageLines}

-- Whether a message of this account belongs to the last of the messages before it.
abbrev pub is_page : List MessageLines → List ℕ → Bool → Bool
is_page [] account opens = false
is_page (m ∷ []) account opens = belongs m account opens
is_page (m ∷ n ∷ ms) account opens = is_page (n ∷ ms) account opens

-- Whether it continues the last of them; the first message has none before it.
abbrev pub goes_on : List (ℕ × Commodity) → List MessageLines → List ℕ → ℤ → Bool → Bool
goes_on known [] currency opening opens = true
goes_on known (m ∷ []) currency opening opens = goes_on_from known m currency opening opens
goes_on known (m ∷ n ∷ ms) currency opening opens = goes_on known (n ∷ ms) currency opening opens

-- Field 60: where the message belongs to the one before it, it continues that one; else it is not the 1,001st
-- statement.
abbrev pub page_checks_of : List (ℕ × Commodity) → List MessageLines → List ℕ → Bool → List ℕ → ℤ → List Check
page_checks_of known messages account opens currency opening =
    check (not (is_page messages account opens) || goes_on known messages currency opening opens) PageOrder
    ∷ check (is_page messages account opens || nat_lt (length (statements_of known messages)) 1_000) TooMany ∷ []

-- Field 60: a balance, in one of the book's currencies, which is a whole number of its smallest units.
abbrev pub opening_checks_of : List (ℕ × Commodity) → List MessageLines → List FieldLines → Bool → List ℕ → List Check
opening_checks_of known messages before opens text =
    balance_form text
    ++ check (is_some (fraction_of (balance_currency text) known)) UnknownCurrency
    ∷ (amount_checks (fraction_in known (balance_currency text)) (balance_amount text)
    ++ page_checks_of known messages (account_of before) opens (balance_currency text)
    (balance (fraction_in known (balance_currency text)) text))

-- Fields 62, 64 and 65: a balance in one of the book's currencies, which is that of the 60.
abbrev pub later_checks_of : List (ℕ × Commodity) → List FieldLines → List ℕ → List Check
later_checks_of known before text =
    balance_form text
    ++ check (is_some (fraction_of (balance_currency text) known)) UnknownCurrency
    ∷ check (same_text (balance_currency text) (currency_of before)) CurrencyDiffers
    ∷ amount_checks (fraction_behind known before) (balance_amount text)

-- Field 62: the closing balance is the opening balance with the lines of this message.
abbrev pub closing_checks_of : List (ℕ × Commodity) → List FieldLines → List ℕ → List Check
closing_checks_of known before text =
    later_checks_of known before text
    ++ check (int_eq (balance (fraction_behind known before) text) (closing_due known before))
    (BalanceMismatch (balance (fraction_behind known before) text) (closing_due known before)) ∷ []

-- How many lines the statement has before a line: those of its pages before, and those of this message.
abbrev pub lines_so_far : List (ℕ × Commodity) → List MessageLines → List FieldLines → ℕ
lines_so_far known messages before =
    (if is_page messages (account_of before) (opens_page before) then last_lines (statements_of known messages) else 0)
    + length (lines_in known before)

-- Field 61: a line, with an amount in the currency of the 60, that is not the 10,001st of its statement.
abbrev pub line_checks_at : List (ℕ × Commodity) → List MessageLines → List FieldLines → List ℕ → List Check
line_checks_at known messages before text =
    line_form text
    ++ (amount_checks (fraction_behind known before) (amount_part text)
    ++ check (nat_lt (lines_so_far known messages before) 10_000) TooMany ∷ [])

-- Fields 25 and 28 are not empty.
abbrev pub not_empty : List ℕ → List Check
not_empty text = check (not (is_nothing text)) FieldForm ∷ []

-- The checks of a field with this tag and text, but for its order.
abbrev pub text_checks : List (ℕ × Commodity) → List MessageLines → List FieldLines → Tag → List ℕ → List Check
text_checks known messages before Reference text = []
text_checks known messages before Related text = []
text_checks known messages before Account text = not_empty text
text_checks known messages before Number text = not_empty text
text_checks known messages before (Opening opens) text = opening_checks_of known messages before opens text
text_checks known messages before Line text = line_checks_at known messages before text
text_checks known messages before Text text = []
text_checks known messages before (Closing closes) text = closing_checks_of known before text
text_checks known messages before Available text = later_checks_of known before text
text_checks known messages before Forward text = later_checks_of known before text

-- The checks of a field behind the fields before it and the messages before those: its order, then its text.
abbrev pub checks_of : List (ℕ × Commodity) → List MessageLines → List FieldLines → FieldLines → List Check
checks_of known messages before f =
    check (may_follow (last_tag before) (is_some (closing_of known before)) f.tag) FieldOrder
    ∷ text_checks known messages before f.tag f.first
