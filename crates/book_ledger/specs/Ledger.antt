-- The ledger of a book: the register of each account, computed afresh from the transactions (GnuCash Concepts Guide,
-- account registers; the order among rows of one day is this project's own).
use Rattle.std.specs.Prelude.{◌≡◌, ℕ, ◌+◌, ◌^◌, ◌≤◌, true, if◌then◌else◌, length, List, [], ◌∷◌, ◌++◌}
use Rattle.std.specs.Prelude.{Option, Some, None, is_some}
use Rattle.book_commodity.specs.Table.{value_of}
use Rattle.book_register.specs.Register.{key_of, precedes}
use Rattle.book_ledger.specs.Page.{Page}
use Rattle.book_register.specs.declared.entry.Entry.{Entry}
use Rattle.book_register.specs.declared.entry.Mark2.{Mark2}
use Rattle.book_register.specs.declared.entry.Mark2.TheVariants as kept
use Rattle.book_splits.specs.Balance.{counts_on}
use Rattle.book_splits.specs.declared.split.Mark.{Mark}
use Rattle.book_splits.specs.declared.split.Mark.TheVariants as mark
use Rattle.book_splits.specs.declared.split.Split.{Split}
use Rattle.book_splits.specs.declared.transaction.Txn.{Txn}
use Rattle.book_undo.specs.Book.{Book}

-- How far a split is reconciled: n, c or y (GnuCash Manual, reconciling accounts). A voided split has no row, so what
-- stands here for it is never asked.
abbrev pub mark_of : Mark → Mark2
mark_of mark.New = kept.Plain
mark_of mark.Cleared = kept.Cleared
mark_of mark.Reconciled = kept.Reconciled
mark_of mark.Voided = kept.Plain

-- The row of the split that stands at a place of the transaction with a number.
abbrev pub row_of : ℕ → Txn → ℕ → Split → Entry
row_of number transaction place split = record {
  day = transaction.day;
  txn = number;
  place = place;
  split = split.id;
  currency = transaction.currency;
  quantity = split.quantity;
  value = split.value;
  mark = mark_of split.mark;
}

-- The rows on an account of some splits of a transaction, of which the first stands at a place. A voided split has none.
abbrev pub rows_from : ℕ → ℕ → Txn → ℕ → List Split → List Entry
rows_from account number transaction place [] = []
rows_from account number transaction place (split ∷ more) =
    if counts_on account split
    then row_of number transaction place split ∷ rows_from account number transaction (place + 1) more
    else rows_from account number transaction (place + 1) more

-- The rows of an account, one for each split that counts on it, by the number of the transaction and the place in it.
abbrev pub rows_on : ℕ → List (ℕ × Txn) → List Entry
rows_on account [] = []
rows_on account (entry ∷ more) = rows_from account entry.0 entry.1 0 entry.1.splits ++ rows_on account more

-- Rows with one more, which stands in front of the first that doesn't come before it.
abbrev pub with_row : Entry → List Entry → List Entry
with_row row [] = row ∷ []
with_row row (first ∷ more) =
    if precedes (key_of first) (key_of row) then first ∷ with_row row more else row ∷ first ∷ more

-- The rows in the order of day, transaction and place.
abbrev pub sorted : List Entry → List Entry
sorted [] = []
sorted (row ∷ more) = with_row row (sorted more)

-- The register of an account: the rows of its splits in the order of day, transaction and place.
abbrev pub register_of : ℕ → List (ℕ × Txn) → List Entry
register_of account transactions = sorted (rows_on account transactions)

-- The rows of a register, or none where there is no register.
abbrev pub rows_in : Option Page → List Entry
rows_in None = []
rows_in (Some register) = register.rows

-- The rows that are kept for an account: those of its register, or none where there is no register for it.
abbrev pub rows_at : ℕ → List (ℕ × Page) → List Entry
rows_at account registers = rows_in (value_of account registers)

-- The registers are those of a book: for each account the rows are those of its register, and each account of the book
-- has a register. An account without a register has no splits.
pub record Keeps (registers : List (ℕ × Page)) (book : Book) : Type 0 where
  pub rows : (account : ℕ) → rows_at account registers ≡ register_of account book.transactions
  pub live : (account : ℕ) → is_some (value_of account book.accounts) ≡ true
      → is_some (value_of account registers) ≡ true

-- The register of an account of the book; none where the book has no such account.
abbrev pub live_register : Book → ℕ → Option (List Entry)
live_register book account =
    if is_some (value_of account book.accounts) then Some (register_of account book.transactions) else None

-- Each transaction has at most 2^32 splits, so that each place in it is a number of 32 bits.
pub record HasPlaces (transactions : List (ℕ × Txn)) : Type 0 where
  pub each : (number : ℕ) (transaction : Txn) → value_of number transactions ≡ Some transaction
      → length transaction.splits ≤ 2 ^ 32
