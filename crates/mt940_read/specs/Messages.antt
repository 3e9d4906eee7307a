-- What the fields of a message say: account, number, currency, balances, day and lines (SWIFT, MT940).
use Rattle.std.specs.Prelude.{ℕ, ◌==◌, Bool, false, List, [], Option, Some, None, unwrap_or, ℤ, pos, ◌+ℤ◌}
use Rattle.std.specs.List.{before_first}
use Rattle.book_commodity.specs.declared.commodity.Commodity.{Commodity}
use Rattle.book_statement.specs.declared.statement_line.StatementLine.{StatementLine}
use Rattle.mt940_read.specs.declared.tag.Tag.{Tag}
use Rattle.mt940_read.specs.declared.tag.Tag.TheVariants.{Account, Number, Opening, Closing}
use Rattle.mt940_read.specs.Balances.{balance, balance_currency, balance_day}
use Rattle.mt940_read.specs.Entries.{last_given, fraction_in, fraction_behind, entries}
use Rattle.mt940_read.specs.Totals.{total_of}
use Rattle.mt940_read.specs.Tree.{FieldLines}

-- Fields 25 and 25P give the account.
abbrev pub account_given : List FieldLines → Tag → List ℕ → Option (List ℕ)
account_given before Account text = Some text
account_given before _ text = None

-- The number of a statement is what stands before the first slash of field 28 or 28C.
unfoldable pub number_part : List ℕ → List ℕ
number_part text = before_first (λ byte. byte == 47) text

-- Fields 28 and 28C give the number of the statement.
abbrev pub number_given : List FieldLines → Tag → List ℕ → Option (List ℕ)
number_given before Number text = Some (number_part text)
number_given before _ text = None

-- Field 60 gives the currency.
abbrev pub currency_given : List FieldLines → Tag → List ℕ → Option (List ℕ)
currency_given before (Opening goes_on) text = Some (balance_currency text)
currency_given before _ text = None

-- Field 60 gives the opening balance.
abbrev pub opening_given : List (ℕ × Commodity) → List FieldLines → Tag → List ℕ → Option ℤ
opening_given known before (Opening goes_on) text = Some (balance (fraction_in known (balance_currency text)) text)
opening_given known before _ text = None

-- Field 60 says whether the message opens in the middle of a statement: 60M does, 60F does not.
abbrev pub opens_given : List FieldLines → Tag → List ℕ → Option Bool
opens_given before (Opening goes_on) text = Some goes_on
opens_given before _ text = None

-- Field 62 gives the closing balance.
abbrev pub closing_given : List (ℕ × Commodity) → List FieldLines → Tag → List ℕ → Option ℤ
closing_given known before (Closing goes_on) text = Some (balance (fraction_behind known before) text)
closing_given known before _ text = None

-- Field 62 says whether the message closes in the middle of a statement: 62M does, 62F does not.
abbrev pub closes_given : List FieldLines → Tag → List ℕ → Option Bool
closes_given before (Closing goes_on) text = Some goes_on
closes_given before _ text = None

-- Field 62 gives the day of the statement.
abbrev pub day_given : List FieldLines → Tag → List ℕ → Option ℤ
day_given before (Closing goes_on) text = Some (balance_day text)
day_given before _ text = None

-- The account of a message; empty where no field gives it.
abbrev pub account_of : List FieldLines → List ℕ
account_of fields = unwrap_or (last_given account_given [] fields) []

-- The number of a message; empty where no field gives it.
abbrev pub number_of : List FieldLines → List ℕ
number_of fields = unwrap_or (last_given number_given [] fields) []

-- The currency of a message; empty where no field gives it.
abbrev pub currency_of : List FieldLines → List ℕ
currency_of fields = unwrap_or (last_given currency_given [] fields) []

-- The opening balance of a message.
abbrev pub opening_of : List (ℕ × Commodity) → List FieldLines → Option ℤ
opening_of known fields = last_given (opening_given known) [] fields

-- Whether a message opens in the middle of a statement, by 60M.
abbrev pub opens_page : List FieldLines → Bool
opens_page fields = unwrap_or (last_given opens_given [] fields) false

-- The closing balance of a message.
abbrev pub closing_of : List (ℕ × Commodity) → List FieldLines → Option ℤ
closing_of known fields = last_given (closing_given known) [] fields

-- The day of a message: that of its closing balance.
abbrev pub day_of : List FieldLines → ℤ
day_of fields = unwrap_or (last_given day_given [] fields) (pos 0)

-- Whether a message closes in the middle of a statement, by 62M.
abbrev pub closes_page : List FieldLines → Bool
closes_page fields = unwrap_or (last_given closes_given [] fields) false

-- The lines of a message.
abbrev pub lines_in : List (ℕ × Commodity) → List FieldLines → List StatementLine
lines_in known fields = entries known [] fields

-- The closing balance that the opening balance and the lines of a message give.
abbrev pub closing_due : List (ℕ × Commodity) → List FieldLines → ℤ
closing_due known fields = unwrap_or (opening_of known fields) (pos 0) +ℤ total_of (lines_in known fields)
