use Rattle.std.proofs.Common.{◌≡◌, map, take}
use Rattle.book_void.specs.Voiding.{voided_split}
use Rattle.book_void.proofs.voiding.voided_splits.Given as goal

abbrev pub invariant-loop-split : goal.invariant-loop-split
invariant-loop-split l = l.voided ≡ map voided_split (take l.split-index l.splits)
