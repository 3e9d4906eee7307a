use Rattle.std.proofs.Common.{◌≡◌, ◌++◌, drop, map}
use Rattle.book_finish.specs.Kept.{row_marked}
use Rattle.book_finish.proofs.marked.marked_splits.Given as goal

-- the rows still to come are still to be added as they are marked
abbrev pub invariant-loop-row : goal.invariant-loop-row
invariant-loop-row l =
    l.marked ++ map row_marked (drop l.row-index l.row-items) ≡ map row_marked l.row-items
