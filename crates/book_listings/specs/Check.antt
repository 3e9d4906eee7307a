-- What a check says of a book that opens: that it is sound, and how much of each kind it has.
use Rattle.std.specs.Prelude.{ℕ, List, [], ◌∷◌, ◌++◌, codes, length}
use Rattle.std.specs.Fmt.{decimal}
use Rattle.book_reports.specs.declared.form.Form.TheVariants.{Plain}
use Rattle.book_splits.specs.Balance.{splits_of}
use Rattle.book_table.specs.Columns.{table_text}
use Rattle.book_table.specs.declared.columns.Side.{Side}
use Rattle.book_table.specs.declared.columns.Side.TheVariants.{Free, Right}
use Rattle.book_undo.specs.Book.{Book}

-- A count, and what is counted.
abbrev pub count_row : ℕ → List ℕ → List (List ℕ)
count_row count what = decimal count ∷ what ∷ []

-- How much there is of each kind that is entered.
abbrev pub entered_rows : Book → List (List (List ℕ))
entered_rows book =
    count_row (length book.accounts) (codes "accounts")
    ∷ count_row (length book.commodities) (codes "commodities")
    ∷ count_row (length book.transactions) (codes "transactions")
    ∷ count_row (length (splits_of book.transactions)) (codes "splits")
    ∷ count_row (length book.prices) (codes "prices")
    ∷ count_row (length book.schedules) (codes "schedules")
    ∷ []

-- How much there is of each kind that came from a bank, or says how the book agrees with it.
abbrev pub bank_rows : Book → List (List (List ℕ))
bank_rows book =
    count_row (length book.statements) (codes "statements")
    ∷ count_row (length book.lines) (codes "lines of statements")
    ∷ count_row (length book.bindings) (codes "bindings")
    ∷ count_row (length book.reconciliations) (codes "reconciliations")
    ∷ []

-- How much of each kind a book has.
abbrev pub count_rows : Book → List (List (List ℕ))
count_rows book = entered_rows book ++ bank_rows book

abbrev pub count_columns : List (List ℕ)
count_columns = codes "count" ∷ codes "of" ∷ []

abbrev pub count_sides : List Side
count_sides = Right ∷ Free ∷ []

-- The counts.
unfoldable pub counts_text : Book → List ℕ
counts_text book = table_text Plain count_sides (count_columns ∷ count_rows book)

-- What a check says of a book that opens.
unfoldable pub check_text : Book → ℕ → List ℕ
check_text book version =
    codes "The book is sound: each row could be read, and no rule is broken. It is at version "
    ++ (decimal version ++ (codes ".\n\n" ++ counts_text book))
