-- Registers that follow leaves row by row, where their changes are counted since a first state of them.
use Rattle.std.specs.Prelude.{◌≡◌, ℕ, true, is_some, List, Option, Some, None, ⊤}
use Rattle.book_commodity.specs.Table.{Rises}
use Rattle.book_register.specs.Register.{RowKey, key_of}
use Rattle.book_ledger.specs.Page.{Page}
use Rattle.book_register.specs.declared.entry.Entry.{Entry}
use Rattle.book_splits.specs.declared.transaction.Txn.{Txn}
use Rattle.book_undo.specs.Book.{Book}
use Rattle.book_undo.specs.Edit.{Leaf}
use Rattle.book_ledger.specs.Change.{Holds, left_at, pick, placed, row_at}
use Rattle.book_ledger.specs.Changes.{RisesBy, changes_of, differing}
use Rattle.book_ledger.specs.Ledger.{rows_at}
use Rattle.book_ledger.specs.Lots.{AreLeft, reckoned_of, work_of}
use Rattle.book_ledger.specs.Room.{AreSorted, ChangeOnce}

-- Since the first of two states of the registers the changes of each account's rose by the rows that differ, of its
-- reckoned rows at least those are left that stand before the last checkpoint in the common part, and none was reckoned.
pub record CountsFrom (first now : List (ℕ × Page)) : Type 0 where
  pub sorted : AreSorted first
  pub each :
      (account : ℕ)
      → RisesBy (differing (rows_at account first) (rows_at account now)) (changes_of account first)
      (changes_of account now)
  pub left :
      (account : ℕ)
      → AreLeft (rows_at account first) (reckoned_of account first) (rows_at account now) (reckoned_of account now)
  pub work : (account : ℕ) → work_of account now ≡ work_of account first

-- A row stands in the register of its account, if one is given.
abbrev pub HasRow : Option (ℕ × Entry) → List (ℕ × Page) → Type 0
HasRow None registers = ⊤
HasRow (Some at) registers = row_at at.0 (key_of at.1) registers ≡ Some at.1

-- A row doesn't stand in the register of its account, if one is given.
abbrev pub LacksRow : Option (ℕ × Entry) → List (ℕ × Page) → Type 0
LacksRow None registers = ⊤
LacksRow (Some at) registers = row_at at.0 (key_of at.1) registers ≡ Some at.1 → ⊥

-- No row stands at the key of a row in the register of its account, if one is given.
abbrev pub IsFree : Option (ℕ × Entry) → List (ℕ × Page) → Type 0
IsFree None registers = ⊤
IsFree (Some at) registers = row_at at.0 (key_of at.1) registers ≡ None

-- Under its number a transaction has its rows in the registers, and no other row stands there.
pub record HasRowsOf (number : ℕ) (transaction : Option Txn) (registers : List (ℕ × Page)) : Type 0 where
  pub rows :
      (account : ℕ) (key : RowKey) → key.txn ≡ number
      → row_at account key registers ≡ pick account key (placed number transaction key.place)

-- Where a transaction has a row that another hasn't, no row stands in the registers.
pub record AreFree (number : ℕ) (transaction other : Option Txn) (registers : List (ℕ × Page)) : Type 0 where
  pub rows :
      (account : ℕ) (key : RowKey) → key.txn ≡ number
      → is_some (pick account key (left_at number transaction other key.place)) ≡ true
      → row_at account key registers ≡ None

-- Registers that held the rows of some transactions at first went on by leaves, each of which changes one of these as
-- it stood at first: the changes are counted on.
abbrev pub CountsOn : List (ℕ × Txn) → List Leaf → List (ℕ × Page) → List (ℕ × Page) → Type 0
CountsOn before changes old new =
    (first : List (ℕ × Page)) (now : Book) → Rises now.transactions → ChangeOnce before changes now
    → Holds first before → Holds old now.transactions → CountsFrom first old → CountsFrom first new
