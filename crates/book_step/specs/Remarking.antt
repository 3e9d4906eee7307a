-- The splits of a book's transactions, marked otherwise: in the place of each split stands what a rule makes of it and
-- of the day of its transaction.
use Rattle.std.specs.Prelude.{◌≡◌, ◌≢◌, ℕ, ℤ, Bool, true, false, if◌then◌else◌, List, [], ◌∷◌, map, Option}
use Rattle.std.specs.Prelude.{Some, None, Contains}
use Rattle.std.specs.List.{list_any}
use Rattle.book_commodity.specs.Table.{value_of}
use Rattle.book_splits.specs.declared.split.Split.{Split}
use Rattle.book_splits.specs.declared.transaction.Txn.{Txn}
use Rattle.book_undo.specs.declared.edit.Edit.{Edit, Put}
use Rattle.book_undo.specs.declared.thing.Thing.TheVariants as thing
use Rattle.book_step.specs.ScheduleRuns.{transaction_edits}

-- A transaction with its splits as the rule makes them.
abbrev pub remarked : (ℤ → Split → Split) → Txn → Txn
remarked rule transaction = record transaction { splits = map (rule transaction.day) transaction.splits }

-- All transactions with their splits as the rule makes them. Their numbers stay.
abbrev pub all_remarked : (ℤ → Split → Split) → List (ℕ × Txn) → List (ℕ × Txn)
all_remarked rule transactions = map (λ entry. (entry.0, remarked rule entry.1)) transactions

-- A rule changes marks alone: of a split only the mark and the reconciliation become others.
pub record ChangesMarksAlone (rule : ℤ → Split → Split) : Type 0 where
  pub each : (day : ℤ) (split : Split)
      → rule day split ≡ record split { mark = (rule day split).mark; recon = (rule day split).recon }

-- A test says which splits a rule changes: those that pass it become others, and the rest stays.
pub record ChangesWhere (touches : ℤ → Split → Bool) (rule : ℤ → Split → Split) : Type 0 where
  pub stays : (day : ℤ) (split : Split) → touches day split ≡ false → rule day split ≡ split
  pub changes : (day : ℤ) (split : Split) → touches day split ≡ true → rule day split ≢ split

-- Whether one of a transaction's splits passes a test of the day and of the split.
abbrev pub has_touched : (ℤ → Split → Bool) → Txn → Bool
has_touched touches transaction = list_any (touches transaction.day) transaction.splits

-- A list has the numbers of all transactions with a split that passes the test.
abbrev pub HasTouched : (ℤ → Split → Bool) → List (ℕ × Txn) → List ℕ → Type 0
HasTouched touches transactions numbers =
    (number : ℕ) (transaction : Txn) → value_of number transactions ≡ Some transaction
    → has_touched touches transaction ≡ true → Contains numbers number

-- The transactions that pass a test, with their splits as the rule makes them, without the others.
abbrev pub remarked_where : (Txn → Bool) → (ℤ → Split → Split) → List (ℕ × Txn) → List (ℕ × Txn)
remarked_where test rule [] = []
remarked_where test rule (entry ∷ more) =
    if test entry.1 then (entry.0, remarked rule entry.1) ∷ remarked_where test rule more
    else remarked_where test rule more

-- The transactions that a rule changes, as it makes them, without the others.
abbrev pub newly_remarked : (ℤ → Split → Bool) → (ℤ → Split → Split) → List (ℕ × Txn) → List (ℕ × Txn)
newly_remarked touches rule transactions = remarked_where (has_touched touches) rule transactions

-- The edits that put these: one for each transaction that becomes another, and none for the others.
abbrev pub remarking : (ℤ → Split → Bool) → (ℤ → Split → Split) → List (ℕ × Txn) → List Edit
remarking touches rule transactions = transaction_edits (newly_remarked touches rule transactions)

-- The edit that puts a transaction under its number, as a rule makes it; none, where there is no transaction.
abbrev pub remarking_one : (ℤ → Split → Split) → ℕ → Option Txn → List Edit
remarking_one rule number None = []
remarking_one rule number (Some transaction) = Put number (thing.Txn (remarked rule transaction)) ∷ []
