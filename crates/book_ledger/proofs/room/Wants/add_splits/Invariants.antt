use Rattle.std.proofs.Common.{take}
use Rattle.book_ledger.specs.Room.{AreCounted}
use Rattle.book_ledger.proofs.room.Wants.add_splits.Given as goal

abbrev pub invariant-loop-split : goal.invariant-loop-split
invariant-loop-split l = AreCounted (take l.split-index l.splits) l.fn.self.counts.entries l.self.counts.entries
