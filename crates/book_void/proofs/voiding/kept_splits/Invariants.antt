use Rattle.std.proofs.Common.{◌≡◌, map, take}
use Rattle.book_void.specs.Voiding.{kept_of}
use Rattle.book_void.proofs.voiding.kept_splits.Given as goal

abbrev pub invariant-loop-split : goal.invariant-loop-split
invariant-loop-split l = l.kept ≡ map kept_of (take l.split-index l.splits)
