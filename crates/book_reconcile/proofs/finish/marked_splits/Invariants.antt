use Rattle.std.proofs.Common.{◌≡◌, take, map}
use Rattle.book_reconcile.proofs.finish.marked_splits.Given as goal

abbrev pub invariant-loop-split : goal.invariant-loop-split
invariant-loop-split l = l.marked ≡ map (λ row. row.1) (take l.split-index l.split-items)
