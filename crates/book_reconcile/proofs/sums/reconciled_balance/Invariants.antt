use Rattle.std.proofs.Common.{◌≡◌, length, take}
use Rattle.book_splits.specs.Balance.{IsWithin, splits_of}
use Rattle.book_splits.specs.declared.split.Mark.TheVariants.{Reconciled}
use Rattle.book_reconcile.specs.Reconciliation.{balance_with}
use Rattle.book_reconcile.proofs.sums.reconciled_balance.Given as goal

abbrev pub invariant-loop-transaction : goal.invariant-loop-transaction
invariant-loop-transaction l = record {
  sums : l.sum
      ≡ balance_with Reconciled l.account (splits_of (take l.transaction-index l.transaction-items));
  within : IsWithin (length (splits_of (take l.transaction-index l.transaction-items))) l.sum;
}
