-- The accounts of a book as a table: each with its number, by which commands name it, and its present balance (GnuCash
-- Concepts Guide, accounts).
use Rattle.std.specs.Prelude.{ℕ, Bool, if◌then◌else◌, List, [], ◌∷◌, ◌++◌, map, codes}
use Rattle.std.specs.Option.{option_map_or}
use Rattle.std.specs.Fmt.{decimal}
use Rattle.book_accounts.specs.Order.{depth_first}
use Rattle.book_accounts.specs.Path.{path}
use Rattle.book_accounts.specs.declared.account.Account.{Account}
use Rattle.book_accounts.specs.declared.kind.AccountKind.{AccountKind}
use Rattle.book_accounts.specs.declared.kind.AccountKind.TheVariants as kind
use Rattle.book_commodity.specs.Amount.{amount_text}
use Rattle.book_commodity.specs.Table.{value_of}
use Rattle.book_reports.specs.Measure.{fraction_of, name_of}
use Rattle.book_reports.specs.declared.form.Form.{Form}
use Rattle.book_splits.specs.Balance.{balance}
use Rattle.book_undo.specs.Book.{Book}
use Rattle.book_table.specs.Columns.{table_text}
use Rattle.book_table.specs.declared.columns.Side.{Side}
use Rattle.book_table.specs.declared.columns.Side.TheVariants.{Free, Left, Right}

-- The word of a kind of accounts, as commands write it.
unfoldable pub kind_word : AccountKind → List ℕ
kind_word kind.Root = codes "ROOT"
kind_word kind.Asset = codes "ASSET"
kind_word kind.Bank = codes "BANK"
kind_word kind.Cash = codes "CASH"
kind_word kind.Credit = codes "CREDIT"
kind_word kind.Liability = codes "LIABILITY"
kind_word kind.Stock = codes "STOCK"
kind_word kind.Mutual = codes "MUTUAL"
kind_word kind.Receivable = codes "RECEIVABLE"
kind_word kind.Payable = codes "PAYABLE"
kind_word kind.Income = codes "INCOME"
kind_word kind.Expense = codes "EXPENSE"
kind_word kind.Equity = codes "EQUITY"

-- The marks of an account: p for a placeholder, h where it is hidden.
abbrev pub account_marks : Bool → Bool → List ℕ
account_marks placeholder hidden =
    (if placeholder then codes "p" else []) ++ (if hidden then codes "h" else [])

-- What an account is called: its path, and the root, which has none, by its name.
abbrev pub account_name : Book → ℕ → Account → List ℕ
account_name book number account =
    option_map_or (λ parent. path book.accounts number) account.parent account.name

-- What the account with a number is called; empty, where there is no such account.
abbrev pub name_in : Book → ℕ → List ℕ
name_in book number = option_map_or (account_name book number) (value_of number book.accounts) []

-- The row of an account: its number, its balance over all days in its commodity, the commodity, its kind, its marks,
-- and what it is called.
abbrev pub account_row : Book → ℕ → Account → List (List ℕ)
account_row book number account =
    decimal number
    ∷ amount_text (balance book.transactions number) (fraction_of book.commodities account.commodity)
    ∷ name_of book.commodities account.commodity
    ∷ kind_word account.kind
    ∷ account_marks account.placeholder account.hidden
    ∷ account_name book number account
    ∷ []

-- The row of the account with a number.
abbrev pub row_at : Book → ℕ → List (List ℕ)
row_at book number = option_map_or (account_row book number) (value_of number book.accounts) []

-- The names of the columns, and where the texts of each stand.
abbrev pub account_columns : List (List ℕ)
account_columns =
    codes "number" ∷ codes "balance" ∷ codes "commodity" ∷ codes "kind" ∷ codes "marks" ∷ codes "account" ∷ []

abbrev pub account_sides : List Side
account_sides = Right ∷ Right ∷ Left ∷ Left ∷ Left ∷ Free ∷ []

-- The rows of all accounts, in the order of their tree, behind the names of the columns.
abbrev pub account_rows : Book → List (List (List ℕ))
account_rows book = account_columns ∷ map (row_at book) (depth_first book.accounts)

-- The accounts of a book.
unfoldable pub accounts_text : Book → Form → List ℕ
accounts_text book form = table_text form account_sides (account_rows book)
