use Rattle.std.proofs.Common.{◌≡◌, take}
use Rattle.std.specs.List.{flat_map}
use Rattle.book_reconcile.specs.Reconciliation.{dated_splits, until}
use Rattle.book_reconcile.proofs.finish.cleared_rows.Given as goal

abbrev pub invariant-loop-transaction : goal.invariant-loop-transaction
invariant-loop-transaction l =
    l.rows.items
    ≡ flat_map (λ entry. dated_splits l.account entry.1) (until l.day (take l.transaction-index l.transaction-items))
