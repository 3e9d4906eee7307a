-- The journal of a book: its transactions by day, each with its number and its splits with theirs, by which commands
-- name them (GnuCash Concepts Guide, transactions).
use Rattle.std.specs.Prelude.{ℕ, ◌==◌, ◌&&◌, ◌≡◌, ℤ, int_lt, int_le, Bool, true, if◌then◌else◌, List, [], ◌∷◌, ◌++◌}
use Rattle.std.specs.Prelude.{filter}
use Rattle.std.specs.Prelude.{map, codes, Option, Some, None}
use Rattle.std.specs.Fmt.{decimal}
use Rattle.std.specs.List.{flat_map}
use Rattle.std.specs.List.Sorted.{IsSortedBy}
use Rattle.std.specs.Option.{option_map_or}
use Rattle.std.specs.Ordering.{int_eq}
use Rattle.book_commodity.specs.Amount.{amount_text}
use Rattle.book_commodity.specs.Day.{day_text}
use Rattle.book_commodity.specs.Table.{value_of}
use Rattle.book_reports.specs.Measure.{commodity_of, fraction_of, name_of}
use Rattle.book_reports.specs.declared.form.Form.{Form}
use Rattle.book_reports.specs.declared.form.Form.TheVariants.{Csv, Plain}
use Rattle.book_splits.specs.declared.split.Mark.{Mark}
use Rattle.book_splits.specs.declared.split.Mark.TheVariants as mark
use Rattle.book_splits.specs.declared.split.Split.{Split}
use Rattle.book_splits.specs.declared.transaction.Txn.{Txn}
use Rattle.book_splits.specs.declared.void.Void.{Void}
use Rattle.book_undo.specs.Book.{Book}
use Rattle.book_listings.specs.Accounts.{name_in}
use Rattle.book_table.specs.Columns.{table_text}
use Rattle.book_table.specs.declared.columns.Side.{Side}
use Rattle.book_table.specs.declared.columns.Side.TheVariants.{Free, Left, Right}
use Rattle.book_listings.specs.declared.days.Days.{Days}

-- ---- which transactions, in which order

-- Whether a day is one of these, or there are none given.
abbrev pub is_within : Option Days → ℤ → Bool
is_within None day = true
is_within (Some days) day = int_le days.from day && int_le day days.to

-- The transactions on these days, by number: the day of each, and its number.
abbrev pub dated : Option Days → List (ℕ × Txn) → List (ℤ × ℕ)
dated days transactions = map (λ e. (e.1.day, e.0)) (filter (λ e. is_within days e.1.day) transactions)

-- Those of one day.
abbrev pub on_day : ℤ → List (ℤ × ℕ) → List (ℤ × ℕ)
on_day day all = filter (λ e. int_eq e.0 day) all

-- Transactions stand by day: no day is before the one in front of it, and on each day they are all those of that day,
-- as they stood before. There is one such order.
pub record AreByDay (all order : List (ℤ × ℕ)) : Type 0 where
  pub rise : IsSortedBy (λ one other. int_lt one.0 other.0) order
  pub each : (day : ℤ) → on_day day order ≡ on_day day all

-- ---- the rows for a person

-- The letter of a mark (GnuCash Manual, reconciling: n, c and y).
abbrev pub mark_letter : Mark → List ℕ
mark_letter mark.New = codes "n"
mark_letter mark.Cleared = codes "c"
mark_letter mark.Reconciled = codes "y"
mark_letter mark.Voided = codes "v"

-- An amount of a commodity.
abbrev pub amount_in : Book → ℕ → ℤ → List ℕ
amount_in book commodity amount = amount_text amount (fraction_of book.commodities commodity)

-- The quantity of a split with its commodity; empty, where the account holds the currency of the transaction, in which
-- its value is the quantity.
abbrev pub other_quantity : Book → Txn → Split → List ℕ
other_quantity book transaction split =
    if commodity_of book split.account == transaction.currency then []
    else amount_in book (commodity_of book split.account) split.quantity
    ++ 32 ∷ name_of book.commodities (commodity_of book split.account)

-- That a transaction is voided, and why; nothing of one that isn't (GnuCash Manual, voiding a transaction).
abbrev pub void_note : Option Void → List ℕ
void_note None = []
void_note (Some void) = codes "voided: " ++ void.reason

-- The row of a transaction itself: its day, its number, its currency, its num, its description, and where it is voided
-- that it is, and why, among the memos.
abbrev pub head_row : Book → ℕ → Txn → List (List ℕ)
head_row book number transaction =
    day_text transaction.day
    ∷ decimal number
    ∷ []
    ∷ name_of book.commodities transaction.currency
    ∷ []
    ∷ transaction.num
    ∷ []
    ∷ transaction.description
    ∷ void_note transaction.voided
    ∷ []

-- The row of a split below it: its number, its mark, its value, its quantity, its action, the number of its account,
-- the account and its memo.
abbrev pub split_row : Book → Txn → Split → List (List ℕ)
split_row book transaction split =
    []
    ∷ decimal split.id
    ∷ mark_letter split.mark
    ∷ amount_in book transaction.currency split.value
    ∷ other_quantity book transaction split
    ∷ split.action
    ∷ decimal split.account
    ∷ name_in book split.account
    ∷ split.memo
    ∷ []

-- The rows of a transaction.
abbrev pub plain_rows : Book → ℕ → Txn → List (List (List ℕ))
plain_rows book number transaction =
    head_row book number transaction ∷ map (split_row book transaction) transaction.splits

-- ---- the rows for a program: one for each split, with what its transaction has

-- Why a transaction is voided; nothing of one that isn't.
abbrev pub void_reason : Option Void → List ℕ
void_reason None = []
void_reason (Some void) = void.reason

abbrev pub record_row : Book → ℕ → Txn → Split → List (List ℕ)
record_row book number transaction split =
    decimal number
    ∷ day_text transaction.day
    ∷ transaction.num
    ∷ transaction.description
    ∷ name_of book.commodities transaction.currency
    ∷ decimal split.id
    ∷ mark_letter split.mark
    ∷ decimal split.account
    ∷ name_in book split.account
    ∷ amount_in book transaction.currency split.value
    ∷ amount_in book (commodity_of book split.account) split.quantity
    ∷ name_of book.commodities (commodity_of book split.account)
    ∷ split.action
    ∷ split.memo
    ∷ void_reason transaction.voided
    ∷ []

abbrev pub rows_of : Form → Book → ℕ → Txn → List (List (List ℕ))
rows_of Plain book number transaction = plain_rows book number transaction
rows_of Csv book number transaction = map (record_row book number transaction) transaction.splits

-- The rows of the transaction with a number.
abbrev pub rows_at : Form → Book → ℕ → List (List (List ℕ))
rows_at form book number = option_map_or (rows_of form book number) (value_of number book.transactions) []

-- ---- the text

-- The names of the columns. For a person the row of a transaction has its num and description where those of its splits
-- have an action and the path of an account.
abbrev pub columns : Form → List (List ℕ)
columns Plain =
    codes "day" ∷ codes "number" ∷ codes "mark" ∷ codes "value" ∷ codes "quantity" ∷ codes "num, action"
    ∷ codes "account" ∷ codes "description, path" ∷ codes "memo" ∷ []
columns Csv =
    codes "transaction" ∷ codes "day" ∷ codes "num" ∷ codes "description" ∷ codes "currency" ∷ codes "split"
    ∷ codes "mark" ∷ codes "account" ∷ codes "path" ∷ codes "value" ∷ codes "quantity" ∷ codes "commodity"
    ∷ codes "action" ∷ codes "memo" ∷ codes "voided" ∷ []

abbrev pub sides : List Side
sides = Left ∷ Right ∷ Left ∷ Right ∷ Right ∷ Left ∷ Right ∷ Left ∷ Free ∷ []

-- The text of transactions in an order.
unfoldable pub listed : Form → Book → List (ℤ × ℕ) → List ℕ
listed form book order = table_text form sides (columns form ∷ flat_map (λ e. rows_at form book e.1) order)

-- A text is the journal of a book on these days: that of its transactions on them, by day.
pub record IsJournal (book : Book) (days : Option Days) (form : Form) (text : List ℕ) : Type 0 where
  pub order : List (ℤ × ℕ)
  pub by_day : AreByDay (dated days book.transactions) order
  pub are : text ≡ listed form book order
