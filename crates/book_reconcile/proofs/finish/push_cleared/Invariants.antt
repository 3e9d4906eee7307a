use Rattle.std.proofs.Common.{◌≡◌, ◌++◌, take, filter, map}
use Rattle.book_splits.specs.declared.split.Mark.TheVariants.{Cleared}
use Rattle.book_reconcile.specs.Reconciliation.{has_mark, marked}
use Rattle.book_reconcile.proofs.finish.push_cleared.Given as goal

abbrev pub invariant-loop-split : goal.invariant-loop-split
invariant-loop-split l =
    l.rows.items
    ≡ l.fn.rows.items ++ map (λ split. (l.day, marked split))
    (filter (has_mark Cleared l.account) (take l.split-index l.split-items))
