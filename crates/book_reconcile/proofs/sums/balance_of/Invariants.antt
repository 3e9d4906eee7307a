use Rattle.std.proofs.Common.{◌≡◌, take}
use Rattle.book_splits.specs.Balance.{IsWithin}
use Rattle.book_reconcile.specs.Reconciliation.{balance_with}
use Rattle.book_reconcile.proofs.sums.balance_of.Given as goal

abbrev pub invariant-loop-split : goal.invariant-loop-split
invariant-loop-split l = record {
  sums : l.sum ≡ balance_with l.mark l.account (take l.split-index l.splits);
  within : IsWithin l.split-index l.sum;
}
