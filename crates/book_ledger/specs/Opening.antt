-- Registers that are made from a whole book.
use Rattle.std.specs.Prelude.{◌≡◌, ℕ, ◌==◌, ◌≤◌, ℤ, true, count_by, if◌then◌else◌, length, List, [], None, is_some}
use Rattle.std.specs.List.{list_any}
use Rattle.std.specs.Option.{option_or}
use Rattle.book_accounts.specs.declared.account.Account.{Account}
use Rattle.book_commodity.specs.Table.{Rises, value_of}
use Rattle.book_register.specs.Register.{RowKey}
use Rattle.book_ledger.specs.Page.{Page}
use Rattle.book_splits.specs.declared.transaction.Txn.{Txn}
use Rattle.book_ledger.specs.Change.{is_there, row_at, row_in}
use Rattle.book_ledger.specs.Changes.{RisesBy, changes_of}
use Rattle.book_ledger.specs.Ledger.{rows_at}
use Rattle.book_ledger.specs.Lots.{work_of}

-- Each of the accounts has a register.
pub record HasAll (registers : List (ℕ × Page)) (accounts : List (ℕ × Account)) : Type 0 where
  pub each :
      (account : ℕ) → is_some (value_of account accounts) ≡ true → is_there account registers ≡ true

-- No number stands twice in a list of days and numbers.
pub record AreOnce (order : List (ℤ × ℕ)) : Type 0 where
  pub each : (number : ℕ) → count_by (λ (entry : ℤ × ℕ). entry.1 == number) order ≤ 1

-- Each transaction's number stands in a list of days and numbers, and where the numbers rise, it stands there once.
pub record NamesAll (order : List (ℤ × ℕ)) (transactions : List (ℕ × Txn)) : Type 0 where
  pub each :
      (number : ℕ) → is_some (value_of number transactions) ≡ true
      → 1 ≤ count_by (λ (entry : ℤ × ℕ). entry.1 == number) order
  pub once : Rises transactions → AreOnce order

-- The rows of the transactions whose numbers stand in a list are put in.
pub record AreAdded (transactions : List (ℕ × Txn)) (order : List (ℤ × ℕ)) (old new : List (ℕ × Page)) : Type 0 where
  pub rows :
      (account : ℕ) (key : RowKey)
      → row_at account key new
      ≡ option_or (if list_any (λ (entry : ℤ × ℕ). entry.1 == key.txn) order then row_in account key transactions
      else None) (row_at account key old)

-- No register has a row.
abbrev pub HaveNoRows : List (ℕ × Page) → Type 0
HaveNoRows registers = (account : ℕ) → rows_at account registers ≡ []

-- Registers as they are made from a whole book: each was changed once for each of its rows, and no row was reckoned
-- into lots.
pub record AreNew (registers : List (ℕ × Page)) : Type 0 where
  pub changes : (account : ℕ) → RisesBy (length (rows_at account registers)) 0 (changes_of account registers)
  pub work : (account : ℕ) → work_of account registers ≡ 0
