use Rattle.std.proofs.Common.{◌≡◌, drop, find}
use Rattle.book_step.specs.Editing.{loses_reconciliation}
use Rattle.book_step.proofs.editing.check_reconciled.Given as goal

abbrev pub invariant-loop-split : goal.invariant-loop-split
invariant-loop-split l =
    find (loses_reconciliation l.later) l.splits ≡ find (loses_reconciliation l.later) (drop l.split-index l.splits)
