use Rattle.std.proofs.Common.{◌≡◌, drop}
use Rattle.std.specs.List.{list_any}
use Rattle.book_splits.specs.Balance.{splits_of}
use Rattle.book_reconcile.specs.Reconciliation.{is_kept as was_kept, is_kept_by}
use Rattle.book_reconcile.proofs.kept.is_kept.Given as goal

abbrev pub invariant-loop-transaction : goal.invariant-loop-transaction
invariant-loop-transaction l =
    was_kept l.number l.account l.txns.entries l.marked
    ≡ list_any (is_kept_by l.number l.account l.marked) (splits_of (drop l.transaction-index l.transaction-items))
