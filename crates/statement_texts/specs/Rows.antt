-- The rows of statements: the fields of a statement, of one of its lines, or of a part of one, with bars between them.
use Rattle.std.specs.Prelude.{ℕ, ◌-◌, ◌^◌, min, ℤ, Bool, true, false, List, [], ◌∷◌, ◌++◌, length, sum_by, codes}
use Rattle.std.specs.Prelude.{Option, Some, None, decimal}
use Rattle.std.specs.List.{flat_map}
use Rattle.std.specs.Fmt.{signed_decimal}
use Rattle.book_commodity.specs.Day.{day_text}
use Rattle.book_statement.specs.declared.part.Part.{Part}
use Rattle.book_statement.specs.declared.statement.Statement.{Statement}
use Rattle.book_statement.specs.declared.statement_line.StatementLine.{StatementLine}

-- A field behind a bar.
abbrev pub field : List ℕ → List ℕ
field text = codes " | " ++ text

-- An amount in smallest units; a minus alone where there is none.
abbrev pub amount_or_none : Option ℤ → List ℕ
amount_or_none (Some amount) = signed_decimal amount
amount_or_none None = codes "-"

-- Whether the balances tie; a minus alone where that is not known.
abbrev pub ties_or_none : Option Bool → List ℕ
ties_or_none (Some true) = codes "ties"
ties_or_none (Some false) = codes "does not tie"
ties_or_none None = codes "-"

-- Opening balance, closing balance, day, whether they tie, and how many lines.
abbrev pub balances : Statement → List ℕ
balances s =
    field (amount_or_none s.opening) ++ field (amount_or_none s.closing) ++ field (day_text s.day)
    ++ field (ties_or_none s.ties) ++ field (decimal (length s.lines)) ++ 10 ∷ []

-- Day, value day, amount, kind, the owner's and the bank's reference, and text.
unfoldable pub line_row : StatementLine → List ℕ
line_row line =
    codes "line" ++ field (day_text line.day) ++ field (day_text line.value_day) ++ field (signed_decimal line.amount)
    ++ field line.kind ++ field line.ref_own ++ field line.ref_bank ++ field line.text ++ 10 ∷ []

-- The row of a category; none where it is empty.
unfoldable pub category_row : List ℕ → List ℕ
category_row [] = []
category_row (b ∷ bs) = codes "category" ++ field (b ∷ bs) ++ 10 ∷ []

-- Category, memo and amount.
abbrev pub part_row : Part → List ℕ
part_row part =
    codes "part" ++ field part.category ++ field part.memo ++ field (signed_decimal part.amount) ++ 10 ∷ []

-- The rows of the parts of a line.
abbrev pub part_rows : List Part → List ℕ
part_rows parts = flat_map part_row parts

-- The row of a line, that of its category, and those of its parts.
abbrev pub rows_of_line : StatementLine → List ℕ
rows_of_line line = line_row line ++ category_row line.category ++ part_rows line.parts

-- The rows of lines.
abbrev pub line_rows : List StatementLine → List ℕ
line_rows lines = flat_map rows_of_line lines

-- The row of a statement, account, number, currency and balances, and behind it those of its lines.
unfoldable pub rows_of : Statement → List ℕ
rows_of s =
    codes "statement" ++ field s.account_text ++ field s.number ++ field s.currency ++ balances s ++ line_rows s.lines

-- The rows of statements.
abbrev pub statement_rows : List Statement → List ℕ
statement_rows statements = flat_map rows_of statements

-- how many lines the statements have together; where there are more than 2^64 - 1, it is that number
abbrev pub count_of_lines : List Statement → ℕ
count_of_lines statements = min (sum_by (λ s. length s.lines) statements) (2 ^ 64 - 1)

-- how many statements there are, and how many lines they have together
abbrev pub counts : List Statement → List ℕ
counts statements =
    decimal (length statements) ++ codes " statements, " ++ decimal (count_of_lines statements)
    ++ codes " lines" ++ 10 ∷ []
