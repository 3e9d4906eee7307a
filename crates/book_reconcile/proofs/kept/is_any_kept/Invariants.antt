use Rattle.std.proofs.Common.{◌≡◌, drop}
use Rattle.std.specs.List.{list_any}
use Rattle.book_reconcile.specs.Reconciliation.{is_kept_by}
use Rattle.book_reconcile.proofs.kept.is_any_kept.Given as goal

abbrev pub invariant-loop-split : goal.invariant-loop-split
invariant-loop-split l =
    list_any (is_kept_by l.number l.account l.marked) l.splits
    ≡ list_any (is_kept_by l.number l.account l.marked) (drop l.split-index l.splits)
