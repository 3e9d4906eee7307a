-- The copies are those of the changes so far.
use Rattle.std.proofs.Common.{◌≡◌, take}
use Rattle.book_keeper.proofs.mem_keeper.copies_of.Given as goal

abbrev pub invariant-loop-change : goal.invariant-loop-change
invariant-loop-change l = l.copies ≡ take l.change-index l.changes
