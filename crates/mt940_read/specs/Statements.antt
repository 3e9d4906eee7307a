-- The statements of a file: messages that follow each other in the file may be pages of one statement (SWIFT, MT940:
-- 60M and 62M).
use Rattle.std.specs.Prelude.{ℕ, Bool, true, ◌&&◌, ◌||◌, List, [], ◌∷◌, ◌++◌, length, Some, unwrap_or}
use Rattle.std.specs.Prelude.{ℤ, pos}
use Rattle.std.specs.Ordering.{int_eq}
use Rattle.book_commodity.specs.declared.commodity.Commodity.{Commodity}
use Rattle.book_statement.specs.declared.statement.Statement.{Statement}
use Rattle.book_statement.specs.Keys.{same_text}
use Rattle.book_statement.specs.Lists.{grouped}
use Rattle.mt940_read.specs.Messages.{
  account_of,
  number_of,
  currency_of,
  opening_of,
  opens_page,
  closing_of,
  closes_page,
  day_of,
  lines_in,
}
use Rattle.mt940_read.specs.Tree.{MessageLines}

-- A message of this account belongs to the statement of the message before it: they have one account, and the first
-- closes or the second opens in the middle of a statement.
abbrev pub belongs : MessageLines → List ℕ → Bool → Bool
belongs m account opens = same_text (account_of m.fields) account && (closes_page m.fields || opens)

-- Two messages belong together.
abbrev pub joins : MessageLines → MessageLines → Bool
joins m n = belongs m (account_of n.fields) (opens_page n.fields)

-- A page continues the message before it: both are in the middle of a statement, and the balances agree.
abbrev pub goes_on_from : List (ℕ × Commodity) → MessageLines → List ℕ → ℤ → Bool → Bool
goes_on_from known m currency opening opens =
    closes_page m.fields && opens && int_eq (unwrap_or (closing_of known m.fields) (pos 0)) opening
    && same_text (currency_of m.fields) currency

-- The statement of a message alone.
abbrev pub alone : List (ℕ × Commodity) → MessageLines → Statement
alone known m = record {
  account_text = account_of m.fields;
  number = number_of m.fields;
  currency = currency_of m.fields;
  opening = opening_of known m.fields;
  closing = closing_of known m.fields;
  day = day_of m.fields;
  ties = Some true;
  lines = lines_in known m.fields;
}

-- A page in front of a statement: the number and the opening balance are the first page's, the closing balance and the
-- day the last one's.
abbrev pub onto : List (ℕ × Commodity) → MessageLines → Statement → Statement
onto known m statement = record statement {
  account_text = account_of m.fields;
  number = number_of m.fields;
  currency = currency_of m.fields;
  opening = opening_of known m.fields;
  lines = lines_in known m.fields ++ statement.lines;
}

-- The statements of a file: neighbours that belong together are one.
abbrev pub statements_of : List (ℕ × Commodity) → List MessageLines → List Statement
statements_of known messages = grouped joins (alone known) (onto known) messages

-- How many lines the last statement has.
abbrev pub last_lines : List Statement → ℕ
last_lines [] = 0
last_lines (s ∷ []) = length s.lines
last_lines (s ∷ t ∷ ts) = last_lines (t ∷ ts)
