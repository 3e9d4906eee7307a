-- The map has the splits of the transactions from the place on.
use Rattle.std.proofs.Common.{drop}
use Rattle.book_splits.specs.Balance.{splits_of}
use Rattle.book_check.specs.Splits.{HasSplits}
use Rattle.book_check.proofs.splits.Splits.of.Given as goal

abbrev pub invariant-loop-place : goal.invariant-loop-place
invariant-loop-place l = HasSplits (splits_of (drop l.place l.transactions.entries)) l.splits
