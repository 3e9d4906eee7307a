-- What becomes different in the registers where one transaction stands in the place of another.
use Rattle.std.specs.Prelude.{◌≡◌, ℕ, ◌==◌, ◌&&◌, nat_lt, Bool, true, false, if◌then◌else◌, List}
use Rattle.std.specs.Prelude.{Option, Some, None, is_some, find, slice_get}
use Rattle.std.specs.Option.{option_and_then, option_or}
use Rattle.std.specs.Ordering.{int_eq}
use Rattle.book_commodity.specs.Table.{value_of}
use Rattle.book_register.specs.Register.{has_key, key_of}
use Rattle.book_ledger.specs.Page.{Page}
use Rattle.book_register.specs.declared.entry.Entry.{Entry}
use Rattle.book_register.specs.declared.entry.Mark2.{Mark2}
use Rattle.book_register.specs.declared.entry.Mark2.TheVariants.{Plain, Cleared, Reconciled}
use Rattle.book_register.specs.Register.{RowKey}
use Rattle.book_splits.specs.TransactionRules.{is_voided}
use Rattle.book_splits.specs.declared.split.Split.{Split}
use Rattle.book_splits.specs.declared.transaction.Txn.{Txn}
use Rattle.book_ledger.specs.Ledger.{rows_at, row_of}

-- The row at a key in the register of an account, if there is one.
abbrev pub row_at : ℕ → RowKey → List (ℕ × Page) → Option Entry
row_at account key registers = find (has_key key) (rows_at account registers)

-- Whether something is kept for an account, as its register.
abbrev pub is_there : {T : Type 0} → ℕ → List (ℕ × T) → Bool
is_there account kept = is_some (value_of account kept)

-- The row of the split at a place of a transaction, with its account; none where the split is voided.
abbrev pub placed_split : ℕ → Txn → ℕ → Split → Option (ℕ × Entry)
placed_split number transaction place split =
    if is_voided split.mark then None else Some (split.account, row_of number transaction place split)

-- The row that a transaction has at a place, with its account; none where there is no transaction, no such place, or a
-- voided split there.
abbrev pub placed : ℕ → Option Txn → ℕ → Option (ℕ × Entry)
placed number None place = None
placed number (Some transaction) place =
    option_and_then (placed_split number transaction place) (slice_get transaction.splits place)

-- Whether two marks are the same.
abbrev pub is_same_mark : Mark2 → Mark2 → Bool
is_same_mark Plain Plain = true
is_same_mark Cleared Cleared = true
is_same_mark Reconciled Reconciled = true
is_same_mark Plain Cleared = false
is_same_mark Plain Reconciled = false
is_same_mark Cleared Plain = false
is_same_mark Cleared Reconciled = false
is_same_mark Reconciled Plain = false
is_same_mark Reconciled Cleared = false

-- Whether two rows are the same.
abbrev pub is_same : Entry → Entry → Bool
is_same one other =
    has_key (key_of one) other && (one.split == other.split) && (one.currency == other.currency)
    && int_eq one.quantity other.quantity && int_eq one.value other.value && is_same_mark one.mark other.mark

-- A row with its account, unless it is the same as another.
abbrev pub left_of : Option (ℕ × Entry) → Option (ℕ × Entry) → Option (ℕ × Entry)
left_of None other = None
left_of (Some at) None = Some at
left_of (Some at) (Some other) = if (at.0 == other.0) && is_same at.1 other.1 then None else Some at

-- The row that a transaction has at a place, unless another has the same there.
abbrev pub left_at : ℕ → Option Txn → Option Txn → ℕ → Option (ℕ × Entry)
left_at number transaction other place = left_of (placed number transaction place) (placed number other place)

-- The row, where it is that of an account at a key.
abbrev pub pick : ℕ → RowKey → Option (ℕ × Entry) → Option Entry
pick account key None = None
pick account key (Some at) = if (at.0 == account) && has_key key at.1 then Some at.1 else None

-- The row of an account at a key that one of two transactions has and the other hasn't, at the places before one.
abbrev pub left_before : ℕ → RowKey → ℕ → Option Txn → Option Txn → ℕ → Option Entry
left_before account key number transaction other place =
    if nat_lt key.place place then pick account key (left_at number transaction other key.place) else None

-- What is left of a row where another is taken out.
abbrev pub cut : Option Entry → Option Entry → Option Entry
cut None row = row
cut (Some taken) row = None

-- The row of an account at a key among those of all splits: that of the split at the key's place.
abbrev pub row_in : ℕ → RowKey → List (ℕ × Txn) → Option Entry
row_in account key transactions =
    pick account key (placed key.txn (value_of key.txn transactions) key.place)

-- The registers have, at each key, the row of the split there, and no other.
pub record Holds (registers : List (ℕ × Page)) (transactions : List (ℕ × Txn)) : Type 0 where
  pub rows : (account : ℕ) (key : RowKey) → row_at account key registers ≡ row_in account key transactions

-- A row is taken out of the registers, if one is given.
pub record IsTaken (row : Option (ℕ × Entry)) (old new : List (ℕ × Page)) : Type 0 where
  pub rows : (account : ℕ) (key : RowKey) → row_at account key new ≡ cut (pick account key row) (row_at account key old)

-- A row is put into the registers, if one is given, instead of one at its key.
pub record IsPut (row : Option (ℕ × Entry)) (old new : List (ℕ × Page)) : Type 0 where
  pub rows :
      (account : ℕ) (key : RowKey)
      → row_at account key new ≡ option_or (pick account key row) (row_at account key old)

-- The rows that one of two transactions has and the other hasn't are taken out, those at the places before one.
pub record AreTaken (number : ℕ) (transaction other : Option Txn) (place : ℕ) (old new : List (ℕ × Page)) : Type 0 where
  pub rows :
      (account : ℕ) (key : RowKey)
      → row_at account key new
      ≡ cut (left_before account key number transaction other place) (row_at account key old)

-- The rows that one of two transactions has and the other hasn't are put in, those at the places before one.
pub record ArePut (number : ℕ) (transaction other : Option Txn) (place : ℕ) (old new : List (ℕ × Page)) : Type 0 where
  pub rows :
      (account : ℕ) (key : RowKey)
      → row_at account key new
      ≡ option_or (left_before account key number transaction other place) (row_at account key old)

-- Registers in which a transaction has its rows have those of another in their place, and all others as before.
pub record IsChanged (number : ℕ) (old new : Option Txn) (before after : List (ℕ × Page)) : Type 0 where
  pub own :
      (account : ℕ) (key : RowKey) → key.txn ≡ number
      → row_at account key before ≡ pick account key (placed number old key.place)
      → row_at account key after ≡ pick account key (placed number new key.place)
  pub others :
      (account : ℕ) (key : RowKey) → (key.txn ≡ number → ⊥)
      → row_at account key after ≡ row_at account key before

-- The rows that one of two transactions has and the other hasn't are all taken out.
pub record AllTaken (number : ℕ) (transaction other : Option Txn) (old new : List (ℕ × Page)) : Type 0 where
  pub rows :
      (account : ℕ) (key : RowKey)
      → row_at account key new
      ≡ cut (pick account key (left_at number transaction other key.place)) (row_at account key old)

-- The rows that one of two transactions has and the other hasn't are all put in.
pub record AllPut (number : ℕ) (transaction other : Option Txn) (old new : List (ℕ × Page)) : Type 0 where
  pub rows :
      (account : ℕ) (key : RowKey)
      → row_at account key new
      ≡ option_or (pick account key (left_at number transaction other key.place)) (row_at account key old)

-- A register stands in the place of an account's.
pub record IsReplaced (account : ℕ) (register : Page) (old new : List (ℕ × Page)) : Type 0 where
  pub values :
      (other : ℕ)
      → value_of other new ≡ (if other == account then Some register else value_of other old)

-- The same registers are kept, but perhaps that of an account.
pub record IsBeside (account : ℕ) (old new : List (ℕ × Page)) : Type 0 where
  pub values : (other : ℕ) → (other == account) ≡ false → value_of other new ≡ value_of other old
  pub there : is_there account new ≡ is_there account old
