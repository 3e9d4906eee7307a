-- The reader's own: the checks of a field by what the reader keeps of the fields and the messages before. No public
-- clause rests on this; the checks of a file stand in FileChecks.
use Rattle.std.specs.Prelude.{
  ℕ,
  ◌≡◌,
  ◌+◌,
  None,
  ⊤,
  nat_lt,
  Bool,
  not,
  ◌||◌,
  List,
  [],
  ◌∷◌,
  ◌++◌,
  length,
  Option,
  is_some,
  if◌then◌else◌,
  ℤ,
  pos,
}
use Rattle.std.specs.Ordering.{int_eq}
use Rattle.book_commodity.specs.declared.commodity.Commodity.{Commodity}
use Rattle.book_statement.specs.declared.bad.Bad.TheVariants.{
  FieldOrder,
  FieldForm,
  UnknownCurrency,
  CurrencyDiffers,
  PageOrder,
  BalanceMismatch,
  TooMany,
}
use Rattle.book_statement.specs.Checks.{Check, check, first_bad}
use Rattle.book_statement.specs.Currencies.{fraction_of}
use Rattle.book_statement.specs.Keys.{same_text}
use Rattle.book_statement.specs.Texts.{is_nothing}
use Rattle.mt940_read.specs.declared.message.Message.{Message}
use Rattle.mt940_read.specs.declared.page.Page.{Page}
use Rattle.mt940_read.specs.declared.tag.Tag.{Tag}
use Rattle.mt940_read.specs.declared.tag.Tag.TheVariants.{
  Reference,
  Related,
  Account,
  Number,
  Opening,
  Line,
  Text,
  Closing,
  Available,
  Forward,
}
use Rattle.mt940_read.specs.Amounts.{amount_checks}
use Rattle.mt940_read.specs.Balances.{balance, balance_form, balance_amount, balance_currency}
use Rattle.mt940_read.specs.Entries.{fraction_in}
use Rattle.mt940_read.specs.LineField.{line_form, line_amount, amount_part}
use Rattle.mt940_read.specs.Order.{may_follow}
use Rattle.mt940_read.specs.Pages.{Past, joins_page, agrees}
use Rattle.mt940_read.specs.Values.{reckoned}

-- Field 60: the page continues the one before it where they belong together, and else it is not the 1,001st statement.
unfoldable pub page_checks : Option Page → ℕ → Message → Bool → List ℕ → ℤ → List Check
page_checks page statements m goes_on currency opening =
    check (not (joins_page page m.account goes_on) || agrees page currency opening goes_on) PageOrder
    ∷ check (joins_page page m.account goes_on || nat_lt statements 1_000) TooMany ∷ []

-- Field 60 behind its form: its currency is one of the book's, and the balance a whole number of its smallest units.
unfoldable pub opening_currency_checks : List (ℕ × Commodity) → Option Page → ℕ → Message → Bool → List ℕ → List Check
opening_currency_checks known page statements m goes_on text =
    check (is_some (fraction_of (balance_currency text) known)) UnknownCurrency
    ∷ (amount_checks (fraction_in known (balance_currency text)) (balance_amount text)
    ++ page_checks page statements m goes_on (balance_currency text)
    (balance (fraction_in known (balance_currency text)) text))

-- Field 60: its form, then its currency, its size and its page.
unfoldable pub opening_checks : List (ℕ × Commodity) → Option Page → ℕ → Message → Bool → List ℕ → List Check
opening_checks known page statements m goes_on text =
    balance_form text ++ opening_currency_checks known page statements m goes_on text

-- Fields 62, 64 and 65 behind their form: the currency is one of the book's, and that of the 60.
unfoldable pub later_currency_checks : List (ℕ × Commodity) → Message → List ℕ → List Check
later_currency_checks known m text =
    check (is_some (fraction_of (balance_currency text) known)) UnknownCurrency
    ∷ check (same_text (balance_currency text) m.currency) CurrencyDiffers ∷ amount_checks m.fraction
    (balance_amount text)

-- Fields 62, 64 and 65: their form, then their currency and their size.
unfoldable pub later_checks : List (ℕ × Commodity) → Message → List ℕ → List Check
later_checks known m text = balance_form text ++ later_currency_checks known m text

-- Field 62: the closing balance is the opening balance with the lines of this message.
unfoldable pub reckoned_checks : Message → ℤ → List Check
reckoned_checks m closing = check (int_eq closing (reckoned m)) (BalanceMismatch closing (reckoned m)) ∷ []

-- Field 62: what is asked of 64 and 65 too, then that it is the balance reckoned.
unfoldable pub closing_checks : List (ℕ × Commodity) → Message → List ℕ → List Check
closing_checks known m text = later_checks known m text ++ reckoned_checks m (balance m.fraction text)

-- How many lines the statement has before a line of this message.
abbrev pub lines_before : Option Page → ℕ → Message → ℕ
lines_before page last_lines m = (if joins_page page m.account m.opens_page then last_lines else 0) + length m.lines

-- Field 61: it is not the 10,001st line of its statement.
unfoldable pub room_checks : Option Page → ℕ → Message → List Check
room_checks page last_lines m = check (nat_lt (lines_before page last_lines m) 10_000) TooMany ∷ []

-- Field 61 behind its form: the size of its amount, then the room of its statement.
unfoldable pub line_amount_checks : Option Page → ℕ → Message → List ℕ → List Check
line_amount_checks page last_lines m text = amount_checks m.fraction (amount_part text) ++ room_checks page
    last_lines m

-- Field 61: its form, then its amount and the room of its statement.
unfoldable pub line_checks : Option Page → ℕ → Message → List ℕ → List Check
line_checks page last_lines m text = line_form text ++ line_amount_checks page last_lines m text

-- Fields 25 and 28 are not empty.
abbrev pub some_checks : List ℕ → List Check
some_checks text = check (not (is_nothing text)) FieldForm ∷ []

-- The checks of a field behind others, without that of the order.
abbrev pub own_checks : List (ℕ × Commodity) → Past → Message → Tag → List ℕ → List Check
own_checks known past m Reference text = []
own_checks known past m Related text = []
own_checks known past m Account text = some_checks text
own_checks known past m Number text = some_checks text
own_checks known past m (Opening goes_on) text = opening_checks known past.page past.statements m goes_on text
own_checks known past m Line text = line_checks past.page past.lines m text
own_checks known past m Text text = []
own_checks known past m (Closing goes_on) text = closing_checks known m text
own_checks known past m Available text = later_checks known m text
own_checks known past m Forward text = later_checks known m text

-- The checks of a field, behind the fields whose values are `m` and the messages that are `past`.
abbrev pub field_checks : List (ℕ × Commodity) → Past → Message → Tag → List ℕ → List Check
field_checks known past m tag text =
    check (may_follow m.last (is_some m.closing) tag) FieldOrder ∷ own_checks known past m tag text

-- The amount of a field, 0 for one without an amount.
abbrev pub amount_in : List (ℕ × Commodity) → Message → Tag → List ℕ → ℤ
amount_in known m (Opening goes_on) text = balance (fraction_in known (balance_currency text)) text
amount_in known m Line text = line_amount m.fraction text
amount_in known m (Closing goes_on) text = balance m.fraction text
amount_in known m Available text = balance m.fraction text
amount_in known m Forward text = balance m.fraction text
amount_in known m _ text = pos 0

-- What a field's checks leave of its form, for what is kept of it.
abbrev pub Fits : Message → Tag → List ℕ → Type 0
Fits m (Opening goes_on) text = first_bad (balance_form text) ≡ None
Fits m (Closing goes_on) text = first_bad (balance_form text) ≡ None
Fits m Line text = first_bad (line_form text) ≡ None
Fits m _ text = ⊤
