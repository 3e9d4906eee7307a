-- Reconciling an account with a bank statement (GnuCash Manual, reconciling accounts).
use Rattle.std.specs.Prelude.{◌≡◌, ℕ, ◌==◌, ℤ, pos, ◌-ℤ◌, int_lt, int_le, Bool, true, false, ◌&&◌, if◌then◌else◌}
use Rattle.std.specs.Prelude.{List, [], ◌∷◌, filter, map, Option, Some, None, Result, Ok, Err}
use Rattle.std.specs.List.{flat_map, list_all, list_any}
use Rattle.std.specs.Ordering.{int_eq}
use Rattle.book_splits.specs.Balance.{splits_of, total}
use Rattle.book_splits.specs.declared.reconciliation.MarkedSplit.{MarkedSplit}
use Rattle.book_splits.specs.declared.reconciliation.Recon.{Recon}
use Rattle.book_splits.specs.declared.split.Mark.{Mark}
use Rattle.book_splits.specs.declared.split.Mark.TheVariants.{New, Cleared, Reconciled, Voided}
use Rattle.book_splits.specs.declared.split.Split.{Split}
use Rattle.book_splits.specs.declared.transaction.Txn.{Txn}
use Rattle.book_reconcile.specs.declared.finish.FinishError.{FinishError}
use Rattle.book_reconcile.specs.declared.finish.FinishError.TheVariants.{Difference, OutOfMemory}

-- Whether two marks are the same.
abbrev pub is_mark : Mark → Mark → Bool
is_mark New New = true
is_mark Cleared Cleared = true
is_mark Reconciled Reconciled = true
is_mark Voided Voided = true
is_mark _ _ = false

-- Whether a split stands on an account and has a mark.
abbrev pub has_mark : Mark → ℕ → Split → Bool
has_mark mark account split = (split.account == account) && is_mark split.mark mark

-- The sum of the quantities of the splits on an account that have a mark.
abbrev pub balance_with : Mark → ℕ → List Split → ℤ
balance_with mark account splits = total (map (λ split. split.quantity) (filter (has_mark mark account) splits))

-- The transactions on or before a day.
abbrev pub until : ℤ → List (ℕ × Txn) → List (ℕ × Txn)
until day transactions = filter (λ entry. int_le entry.1.day day) transactions

-- The opening balance of a reconciliation: the sum of the account's reconciled splits, over all days.
abbrev pub opening : ℕ → List (ℕ × Txn) → ℤ
opening account transactions = balance_with Reconciled account (splits_of transactions)

-- The difference: what the closing balance is above the opening balance and the account's cleared splits on or before
-- the day.
abbrev pub difference : ℕ → ℤ → ℤ → List (ℕ × Txn) → ℤ
difference account day closing transactions =
    (closing -ℤ opening account transactions) -ℤ balance_with Cleared account (splits_of (until day transactions))

-- A marked split: its number and its quantity.
abbrev pub marked : Split → MarkedSplit
marked split = record { split = split.id; quantity = split.quantity }

-- The cleared splits of a transaction on an account, in order, each behind the transaction's day.
abbrev pub dated_splits : ℕ → Txn → List (ℤ × MarkedSplit)
dated_splits account transaction =
    map (λ split. (transaction.day, marked split)) (filter (has_mark Cleared account) transaction.splits)

-- Dated splits with one more, which stands in front of the first that isn't on an earlier day.
abbrev pub with_dated : ℤ × MarkedSplit → List (ℤ × MarkedSplit) → List (ℤ × MarkedSplit)
with_dated row [] = row ∷ []
with_dated row (first ∷ more) = if int_lt first.0 row.0 then first ∷ with_dated row more else row ∷ first ∷ more

-- Dated splits by day; those of one day stay in their order.
abbrev pub by_day : List (ℤ × MarkedSplit) → List (ℤ × MarkedSplit)
by_day [] = []
by_day (row ∷ more) = with_dated row (by_day more)

-- The splits that a reconciliation marks: the account's cleared splits on or before the day. Where the transactions
-- rise by number, as in a table, they stand in the order of its register: by day, on one day by transaction, and in
-- one transaction by place.
abbrev pub splits_to_mark : ℕ → ℤ → List (ℕ × Txn) → List MarkedSplit
splits_to_mark account day transactions =
    map (λ row. row.1) (by_day (flat_map (λ entry. dated_splits account entry.1) (until day transactions)))

-- The record of a reconciliation.
abbrev pub finish : ℕ → ℤ → ℤ → List (ℕ × Txn) → Recon
finish account day closing transactions = record {
  account = account;
  day = day;
  opening = opening account transactions;
  closing = closing;
  marked = splits_to_mark account day transactions;
}

-- What a reconciliation answers: its record exactly where the difference is zero, unless it is out of memory then; and
-- else the difference (GnuCash Manual, reconciling: it can be finished when the difference is zero).
abbrev pub FinishesBy : ℕ → ℤ → ℤ → List (ℕ × Txn) → Result Recon FinishError → Type 0
FinishesBy account day closing transactions (Ok recon) =
    (difference account day closing transactions ≡ pos 0) × (recon ≡ finish account day closing transactions)
FinishesBy account day closing transactions (Err (Difference by)) =
    (by ≡ difference account day closing transactions) × (by ≡ pos 0 → ⊥)
FinishesBy account day closing transactions (Err OutOfMemory) =
    difference account day closing transactions ≡ pos 0

-- Whether a split's reconciliation is the one with a number.
abbrev pub is_under : ℕ → Option ℕ → Bool
is_under number None = false
is_under number (Some other) = other == number

-- Whether a split is a marked one as it was when the reconciliation with a number marked it: it stands on the account,
-- is reconciled under that number, and has the quantity kept.
abbrev pub is_kept_by : ℕ → ℕ → MarkedSplit → Split → Bool
is_kept_by number account marked split =
    (split.id == marked.split) && (has_mark Reconciled account split && (is_under number split.recon
    && int_eq split.quantity marked.quantity))

-- Whether a book's transactions have the marked split as it was.
abbrev pub is_kept : ℕ → ℕ → List (ℕ × Txn) → MarkedSplit → Bool
is_kept number account transactions marked = list_any (is_kept_by number account marked) (splits_of transactions)

-- Whether the record of the reconciliation with a number is intact: each split of its list is as it was.
abbrev pub is_intact : ℕ → Recon → List (ℕ × Txn) → Bool
is_intact number recon transactions = list_all (is_kept number recon.account transactions) recon.marked
