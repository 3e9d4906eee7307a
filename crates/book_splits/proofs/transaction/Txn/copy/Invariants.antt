use Rattle.std.proofs.Common.{◌≡◌, take}
use Rattle.book_splits.proofs.transaction.Txn.copy.Given as goal

abbrev pub invariant-loop-split : goal.invariant-loop-split
invariant-loop-split l = l.splits ≡ take l.split-index l.self.splits
