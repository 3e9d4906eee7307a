-- The statement of an account, from the headers above it and its lines (BAI2, records 01, 02 and 03).
use Rattle.std.specs.Prelude.{ℕ, Bool, List, [], ◌∷◌, codes, Option, Some, None, ℤ, pos, ◌+ℤ◌}
use Rattle.std.specs.Ordering.{int_eq}
use Rattle.std.specs.Option.{unwrap_or}
use Rattle.book_statement.specs.Dates.{short_date}
use Rattle.book_statement.specs.declared.statement.Statement.{Statement}
use Rattle.book_statement.specs.declared.statement_line.StatementLine.{StatementLine}
use Rattle.bai2_read.specs.Fields.{field}
use Rattle.bai2_read.specs.Summaries.{closing, opening}
use Rattle.bai2_read.specs.Totals.{total_over}

-- The number of a file's statements: the file identification (BAI2, record 01).
abbrev pub number_in : List ℕ → List ℕ
number_in body = field 4 body

-- The day of a group's statements: its as-of date (BAI2, record 02); 1970-01-01 where that is none.
abbrev pub day_in : List ℕ → ℤ
day_in body = unwrap_or (short_date (field 3 body)) (pos 0)

-- The currency of a group (BAI2, record 02); empty where it gives none.
abbrev pub currency_in : List ℕ → List ℕ
currency_in body = field 5 body

-- The first of two texts that is not empty.
abbrev pub or_else : List ℕ → List ℕ → List ℕ
or_else [] otherwise = otherwise
or_else (b ∷ bs) otherwise = b ∷ bs

-- The currency of an account: that of its header, else of its group's header, else US dollars (BAI2, record 03).
abbrev pub currency_with : List ℕ → List ℕ → List ℕ
currency_with currency account = or_else (field 1 account) (or_else currency (codes "USD"))

-- The sum of the amounts of lines.
abbrev pub sum_of_lines : List StatementLine → ℤ
sum_of_lines lines = total_over (λ (line : StatementLine). line.amount) lines

-- Whether opening balance and lines sum to the closing balance, where both balances are given.
abbrev pub ties_with : Option ℤ → Option ℤ → List StatementLine → Option Bool
ties_with None closes lines = None
ties_with (Some opens) None lines = None
ties_with (Some opens) (Some closes) lines = Some (int_eq (opens +ℤ sum_of_lines lines) closes)

-- The statement of an account: by the number of the file, the day and the currency of the group, the fields of the
-- account's header, and its lines.
unfoldable pub statement_with : List ℕ → ℤ → List ℕ → List ℕ → List StatementLine → Statement
statement_with number day currency account lines = record {
  account_text = field 0 account;
  number = number;
  currency = currency_with currency account;
  opening = opening account;
  closing = closing account;
  day = day;
  ties = ties_with (opening account) (closing account) lines;
  lines = lines;
}
