use Rattle.std.proofs.Common.{◌≡◌, ◌++◌, drop}
use Rattle.book_step.specs.Marking.{marked_among}
use Rattle.book_step.proofs.marking.marked_among.Given as goal

abbrev pub invariant-loop-split : goal.invariant-loop-split
invariant-loop-split l =
    l.marked ++ marked_among l.number l.mark (drop l.split-index l.splits) ≡ marked_among l.number l.mark l.splits
