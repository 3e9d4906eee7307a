-- The text of a register: the rows of an account in a period, each with the balance after it (GnuCash Concepts Guide,
-- account registers).
use Rattle.std.specs.Prelude.{ℕ, ℤ, if◌then◌else◌, List, [], ◌∷◌, ◌++◌, codes}
use Rattle.std.specs.Option.{option_map_or}
use Rattle.book_accounts.specs.Path.{path}
use Rattle.book_commodity.specs.Amount.{amount_text}
use Rattle.book_commodity.specs.Day.{day_text}
use Rattle.book_commodity.specs.Table.{value_of}
use Rattle.book_ledger.specs.Ledger.{register_of}
use Rattle.book_register.specs.Register.{balance}
use Rattle.book_register.specs.declared.entry.Entry.{Entry}
use Rattle.book_register.specs.declared.entry.Mark2.{Mark2}
use Rattle.book_register.specs.declared.entry.Mark2.TheVariants as mark
use Rattle.book_splits.specs.declared.transaction.Txn.{Txn}
use Rattle.book_undo.specs.Book.{Book}
use Rattle.book_reports.specs.Income.{between}
use Rattle.book_reports.specs.Layout.{printed, record_text, right}
use Rattle.book_reports.specs.Measure.{commodity_of, fraction_of, is_in, name_of}
use Rattle.book_reports.specs.declared.form.Form.{Form}
use Rattle.book_reports.specs.declared.form.Form.TheVariants.{Csv, Plain}
use Rattle.book_reports.specs.declared.period.Period.{Period}

-- The letter of a mark (GnuCash Manual, reconciling: n, c and y).
abbrev pub mark_letter : Mark2 → List ℕ
mark_letter mark.Plain = codes "n"
mark_letter mark.Cleared = codes "c"
mark_letter mark.Reconciled = codes "y"

-- The number that a person gave the transaction, and its description; empty, where there is no such transaction.
abbrev pub number_in : List (ℕ × Txn) → ℕ → List ℕ
number_in transactions txn = option_map_or (λ t. t.num) (value_of txn transactions) []

abbrev pub description_in : List (ℕ × Txn) → ℕ → List ℕ
description_in transactions txn = option_map_or (λ t. t.description) (value_of txn transactions) []

-- The columns of a row with the texts of its quantity and of the balance after it: day, mark and both.
unfoldable pub columns : Entry → List ℕ → List ℕ → List ℕ
columns row quantity after =
    day_text row.day ++ codes "  " ++ mark_letter row.mark ++ codes "  " ++ right 20 quantity ++ codes "  "
    ++ right 24 after ++ codes "  "

-- The line of a row: its columns, and behind them number and description.
abbrev pub plain_row : Book → Entry → List ℕ → List ℕ → List ℕ
plain_row book row quantity after =
    columns row quantity after ++ printed (number_in book.transactions row.txn) ++ codes "  "
    ++ printed (description_in book.transactions row.txn) ++ 10 ∷ []

-- A record of day, mark, quantity, balance, number and description.
abbrev pub csv_record : List ℕ → List ℕ → List ℕ → List ℕ → List ℕ → List ℕ → List ℕ
csv_record day mark quantity after number description =
    record_text (day ∷ mark ∷ quantity ∷ after ∷ number ∷ description ∷ [])

-- The same as a record.
abbrev pub csv_row : Book → Entry → List ℕ → List ℕ → List ℕ
csv_row book row quantity after =
    csv_record (day_text row.day) (mark_letter row.mark) quantity after (number_in book.transactions row.txn)
    (description_in book.transactions row.txn)

-- A row of a register in a commodity with this fraction, and the balance after it.
unfoldable pub row_in : Form → Book → ℕ → Entry → ℤ → List ℕ
row_in Plain book fraction row after =
    plain_row book row (amount_text row.quantity fraction) (amount_text after fraction)
row_in Csv book fraction row after =
    csv_row book row (amount_text row.quantity fraction) (amount_text after fraction)

-- The lines of the rows in a period, of which some stand behind others; the balance after a row is the sum of the
-- quantities of all rows up to it.
abbrev pub rows_after : Form → Book → ℕ → Period → List Entry → List Entry → List ℕ
rows_after form book fraction period before [] = []
rows_after form book fraction period before (row ∷ more) =
    (if is_in period row.day then row_in form book fraction row (balance (before ++ row ∷ [])) else [])
    ++ rows_after form book fraction period (before ++ row ∷ []) more

-- The title: the path of the account and the name of its commodity.
unfoldable pub title : Book → ℕ → ℕ → List ℕ
title book account commodity =
    codes "Register " ++ printed (path book.accounts account) ++ 32 ∷ []
    ++ printed (name_of book.commodities commodity) ++ 10 ∷ []

-- The names of the fields.
unfoldable pub header : List ℕ
header =
    csv_record (codes "day") (codes "mark") (codes "quantity") (codes "balance") (codes "num") (codes "description")

abbrev pub heading : Form → Book → ℕ → ℕ → List ℕ
heading Plain book account commodity = title book account commodity
heading Csv book account commodity = header

-- The register of an account of a book from one day to another.
unfoldable pub register_text : Book → ℕ → ℤ → ℤ → Form → List ℕ
register_text book account first last form =
    heading form book account (commodity_of book account)
    ++ rows_after form book (fraction_of book.commodities (commodity_of book account)) (between first last) []
    (register_of account book.transactions)
