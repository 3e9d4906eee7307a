use Rattle.std.proofs.Common.{◌≡◌, map, take}
use Rattle.book_step.specs.Reconciling.{marked_under}
use Rattle.book_step.proofs.reconciling.Marking.splits.Given as goal

abbrev pub invariant-loop-split : goal.invariant-loop-split
invariant-loop-split l =
    l.marked ≡ map (marked_under l.self.number l.self.account l.self.upto l.day) (take l.split-index l.splits)
