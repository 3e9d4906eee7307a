-- The register of an account with the numbers by which commands name its transactions and splits (GnuCash Concepts
-- Guide, account registers).
use Rattle.std.specs.Prelude.{ℕ, ◌==◌, ◌++◌, ℤ, not, if◌then◌else◌, List, [], ◌∷◌, filter, map, codes, Option}
use Rattle.std.specs.Prelude.{option_map, slice_get}
use Rattle.std.specs.Fmt.{decimal}
use Rattle.std.specs.List.{flat_map}
use Rattle.std.specs.Option.{option_map_or}
use Rattle.book_commodity.specs.Amount.{amount_text}
use Rattle.book_commodity.specs.Day.{day_text}
use Rattle.book_commodity.specs.Table.{value_of}
use Rattle.book_ledger.specs.Ledger.{register_of}
use Rattle.book_register.specs.Register.{balance}
use Rattle.book_register.specs.declared.entry.Entry.{Entry}
use Rattle.book_reports.specs.Measure.{commodity_of, fraction_of}
use Rattle.book_reports.specs.RegisterText.{description_in, mark_letter, number_in}
use Rattle.book_reports.specs.declared.form.Form.{Form}
use Rattle.book_splits.specs.declared.split.Split.{Split}
use Rattle.book_splits.specs.declared.transaction.Txn.{Txn}
use Rattle.book_statement.specs.declared.line.Line.{Line}
use Rattle.book_statement.specs.declared.line_state.LineState.{LineState}
use Rattle.book_statement.specs.declared.line_state.LineState.TheVariants.{Open, Matched, Dismissed}
use Rattle.book_undo.specs.Book.{Book}
use Rattle.book_listings.specs.Accounts.{name_in}
use Rattle.book_table.specs.Columns.{table_text}
use Rattle.book_table.specs.declared.columns.Side.{Side}
use Rattle.book_table.specs.declared.columns.Side.TheVariants.{Free, Left, Right}

-- The accounts of splits, but for the split with a number.
abbrev pub others_than : ℕ → List Split → List ℕ
others_than split splits = map (λ other. other.account) (filter (λ other. not (other.id == split)) splits)

-- What one account is called; several where there are more.
abbrev pub side_of : Book → List ℕ → List ℕ
side_of book [] = []
side_of book (account ∷ []) = name_in book account
side_of book (account ∷ other ∷ more) = codes "several"

-- The other side of a split in its transaction: the account of the other split, or that there are several.
abbrev pub other_side : Book → ℕ → Txn → List ℕ
other_side book split transaction = side_of book (others_than split transaction.splits)

abbrev pub other_side_in : Book → Entry → List ℕ
other_side_in book row = option_map_or (other_side book row.split) (value_of row.txn book.transactions) []

-- The memo of the split of a row, which stands at its place of its transaction.
abbrev pub memo_at : ℕ → Txn → List ℕ
memo_at place transaction = option_map_or (λ split. split.memo) (slice_get transaction.splits place) []

abbrev pub memo_in : Book → Entry → List ℕ
memo_in book row = option_map_or (memo_at row.place) (value_of row.txn book.transactions) []

-- The number of the split that a line of an account is matched with, and the number of the line.
abbrev pub matched_by : LineState → ℕ → List (ℕ × ℕ)
matched_by Open number = []
matched_by (Matched split) number = (split, number) ∷ []
matched_by Dismissed number = []

abbrev pub matched_in : ℕ → ℕ × Line → List (ℕ × ℕ)
matched_in account entry = if entry.1.account == account then matched_by entry.1.state entry.0 else []

-- Those of the lines of an account, by the numbers of the lines.
abbrev pub matched_of : ℕ → List (ℕ × Line) → List (ℕ × ℕ)
matched_of account lines = flat_map (matched_in account) lines

-- The number of the line with which a split is matched.
abbrev pub line_of : ℕ → List (ℕ × ℕ) → Option ℕ
line_of split matched = value_of split matched

-- A row of the register in a commodity with this fraction, and the balance after it: its day, the numbers of its
-- transaction and its split, its mark, its quantity, the balance, the other side, the number of the bank's line with
-- which the split is matched, the num, the description and the memo.
abbrev pub register_row : Book → Option ℕ → ℕ → Entry → ℤ → List (List ℕ)
register_row book line fraction row after =
    day_text row.day
    ∷ decimal row.txn
    ∷ decimal row.split
    ∷ mark_letter row.mark
    ∷ amount_text row.quantity fraction
    ∷ amount_text after fraction
    ∷ other_side_in book row
    ∷ option_map_or decimal line []
    ∷ number_in book.transactions row.txn
    ∷ description_in book.transactions row.txn
    ∷ memo_in book row
    ∷ []

-- The rows that stand behind others; the balance after a row is the sum of the quantities of all rows up to it. `lines`
-- has what is matched.
abbrev pub rows_after : Book → List (ℕ × ℕ) → ℕ → List Entry → List Entry → List (List (List ℕ))
rows_after book lines fraction before [] = []
rows_after book lines fraction before (row ∷ more) =
    register_row book (line_of row.split lines) fraction row (balance (before ++ row ∷ []))
    ∷ rows_after book lines fraction (before ++ row ∷ []) more

-- The rows of the register of an account.
abbrev pub register_rows : Book → ℕ → List (List (List ℕ))
register_rows book account =
    rows_after book (matched_of account book.lines) (fraction_of book.commodities (commodity_of book account)) []
    (register_of account book.transactions)

abbrev pub register_columns : List (List ℕ)
register_columns =
    codes "day" ∷ codes "number" ∷ codes "split" ∷ codes "mark" ∷ codes "quantity" ∷ codes "balance"
    ∷ codes "other side" ∷ codes "line" ∷ codes "num" ∷ codes "description" ∷ codes "memo" ∷ []

abbrev pub register_sides : List Side
register_sides = Left ∷ Right ∷ Right ∷ Left ∷ Right ∷ Right ∷ Left ∷ Right ∷ Left ∷ Left ∷ Free ∷ []

-- The register of an account of the book.
unfoldable pub register_text : Book → ℕ → Form → List ℕ
register_text book account form = table_text form register_sides (register_columns ∷ register_rows book account)

-- The register of the account with a number; none, where the book has no such account.
abbrev pub account_text : Book → ℕ → Form → Option (List ℕ)
account_text book account form = option_map (λ there. register_text book account form) (value_of account book.accounts)
