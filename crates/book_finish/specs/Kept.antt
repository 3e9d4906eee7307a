-- What a reconciliation of an account needs, as the rows of the account's register tell it (GnuCash Manual, reconciling
-- accounts).
use Rattle.std.specs.Prelude.{ℕ, ◌≤◌, ℤ, ◌-ℤ◌, int_le, Bool, true, false, ◌&&◌, All, unsigned_abs, length, List}
use Rattle.std.specs.Prelude.{filter, map}
use Rattle.std.specs.List.{list_any}
use Rattle.book_limits.specs.Limits.{largest_split_amount}
use Rattle.book_splits.specs.declared.reconciliation.MarkedSplit.{MarkedSplit}
use Rattle.book_splits.specs.declared.split.Mark.TheVariants as mark
use Rattle.book_splits.specs.declared.transaction.Txn.{Txn}
use Rattle.book_reconcile.specs.Reconciliation.{has_mark}
use Rattle.book_register.specs.Register.{balances, rows_until}
use Rattle.book_register.specs.declared.entry.Entry.{Entry}
use Rattle.book_register.specs.declared.entry.Mark2.{Mark2}
use Rattle.book_register.specs.declared.entry.Mark2.TheVariants.{Plain, Cleared, Reconciled}

-- A row whose quantity is at most as large as that of a split.
abbrev pub IsSmall : Entry → Type 0
IsSmall row = unsigned_abs row.quantity ≤ largest_split_amount

-- The rows of a register of a book: at most 1,000,000, with quantities within the limit.
pub record AreWithinLimits (rows : List Entry) : Type 0 where
  pub few : length rows ≤ 1000000
  pub small : All IsSmall rows

-- Whether a mark is that of a row which is cleared and not reconciled.
abbrev pub is_cleared_alone : Mark2 → Bool
is_cleared_alone Plain = false
is_cleared_alone Cleared = true
is_cleared_alone Reconciled = false

-- Whether a reconciliation up to a day marks a row: it is cleared, and on or before the day.
abbrev pub is_row_to_mark : ℤ → Entry → Bool
is_row_to_mark day row = is_cleared_alone row.mark && int_le row.day day

-- The opening balance: what is reconciled, over all days.
abbrev pub opening_in : List Entry → ℤ
opening_in rows = (balances rows).reconciled

-- The balance of the cleared rows on or before a day: what is cleared or reconciled without what is reconciled.
abbrev pub cleared_in : ℤ → List Entry → ℤ
cleared_in day rows = (balances (rows_until day rows)).cleared -ℤ (balances (rows_until day rows)).reconciled

-- What the closing balance is above both.
abbrev pub difference_in : ℤ → ℤ → List Entry → ℤ
difference_in day closing rows = (closing -ℤ opening_in rows) -ℤ cleared_in day rows

-- A row as a reconciliation marks it: the number of its split and its quantity.
abbrev pub row_marked : Entry → MarkedSplit
row_marked row = record { split = row.split; quantity = row.quantity }

-- The rows that a reconciliation up to a day marks, in the order of the register.
abbrev pub marked_in : ℤ → List Entry → List MarkedSplit
marked_in day rows = map row_marked (filter (is_row_to_mark day) rows)

-- The numbers of their transactions, in the same order.
abbrev pub numbers_in : ℤ → List Entry → List ℕ
numbers_in day rows = map (λ row. row.txn) (filter (is_row_to_mark day) rows)

-- Whether a transaction has a split that a reconciliation of an account up to a day marks.
abbrev pub has_to_mark : ℕ → ℤ → Txn → Bool
has_to_mark account upto transaction =
    list_any (λ split. has_mark mark.Cleared account split && int_le transaction.day upto) transaction.splits

-- The numbers of the transactions that have one, in their order.
abbrev pub numbers_to_mark : ℕ → ℤ → List (ℕ × Txn) → List ℕ
numbers_to_mark account upto transactions =
    map (λ entry. entry.0) (filter (λ entry. has_to_mark account upto entry.1) transactions)
