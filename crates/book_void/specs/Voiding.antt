-- Voiding a transaction, and bringing it back (GnuCash Manual, voiding a transaction; GnuCash SQL schema, column
-- reconcile_state of splits).
use Rattle.std.specs.Prelude.{ℕ, ◌==◌, pos, Bool, true, ◌&&◌, List, [], ◌∷◌, length, map, Option, Some, None, is_none}
use Rattle.std.specs.Ordering.{int_eq}
use Rattle.book_splits.specs.TransactionRules.{is_voided}
use Rattle.book_splits.specs.declared.split.Mark.TheVariants.{New, Voided}
use Rattle.book_splits.specs.declared.split.Split.{Split}
use Rattle.book_splits.specs.declared.transaction.Txn.{Txn}
use Rattle.book_splits.specs.declared.void.KeptSplit.{KeptSplit}
use Rattle.book_splits.specs.declared.void.Void.{Void}

-- What is kept of a split that is voided: its value and its quantity.
abbrev pub kept_of : Split → KeptSplit
kept_of split = record { value = split.value; quantity = split.quantity }

-- A voided split: its amounts are zero, and it names no reconciliation.
abbrev pub voided_split : Split → Split
voided_split split = record split { mark = Voided; recon = None; value = pos 0; quantity = pos 0 }

-- A transaction that is voided for a reason: each of its splits is voided, and what it had is kept by place.
abbrev pub voided_for : List ℕ → Txn → Txn
voided_for reason transaction = record transaction {
  splits = map voided_split transaction.splits;
  voided = Some (record { reason = reason; kept = map kept_of transaction.splits });
}

-- A split with what was kept of it: it is new, and names no reconciliation.
abbrev pub restored_split : Split → KeptSplit → Split
restored_split split kept =
    record split { mark = New; recon = None; value = kept.value; quantity = kept.quantity }

-- Splits with what was kept of them, by place, up to the end of the shorter list.
abbrev pub restored_splits : List Split → List KeptSplit → List Split
restored_splits [] kept = []
restored_splits (split ∷ more) [] = []
restored_splits (split ∷ more) (first ∷ kept) = restored_split split first ∷ restored_splits more kept

-- A transaction with what was kept of it; it stays as it is where nothing was.
abbrev pub restored_with : Txn → Option Void → Txn
restored_with transaction None = transaction
restored_with transaction (Some void) =
    record transaction { splits = restored_splits transaction.splits void.kept; voided = None }

-- A transaction that is brought back: each split has the value and the quantity that were kept of it. A transaction
-- that is not voided stays as it is.
abbrev pub restored : Txn → Txn
restored transaction = restored_with transaction transaction.voided

-- A split that is new again, and names no reconciliation.
abbrev pub new_again : Split → Split
new_again split = record split { mark = New; recon = None }

-- A transaction of which each split is new again, and which is not voided.
abbrev pub all_new : Txn → Txn
all_new transaction = record transaction { splits = map new_again transaction.splits; voided = None }

-- Whether a split is rightly voided: it has the mark, it names no reconciliation, and its amounts are zero.
abbrev pub is_rightly_voided : Split → Bool
is_rightly_voided split =
    is_voided split.mark && (is_none split.recon && (int_eq split.value (pos 0) && int_eq split.quantity (pos 0)))

-- Whether as many amounts are kept as there are splits, where a transaction is voided.
abbrev pub keeps_as_many : Option Void → List Split → Bool
keeps_as_many None splits = true
keeps_as_many (Some void) splits = length void.kept == length splits
