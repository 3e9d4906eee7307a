-- None of the transactions so far has the split.
use Rattle.std.proofs.Common.{◌≡◌, drop}
use Rattle.book_splits.specs.Owner.{owner}
use Rattle.book_splits.proofs.transactions.Txns.owner.Given as goal

abbrev pub invariant-loop-number : goal.invariant-loop-number
invariant-loop-number l = owner l.split l.self.entries ≡ owner l.split (drop l.number-index l.number-items)
