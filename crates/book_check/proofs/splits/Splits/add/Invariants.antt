-- The splits from the place on are put.
use Rattle.std.proofs.Common.{drop}
use Rattle.book_check.specs.Splits.{PutsBefore}
use Rattle.book_check.proofs.splits.Splits.add.Given as goal

abbrev pub invariant-loop-place : goal.invariant-loop-place
invariant-loop-place l = PutsBefore (drop l.place l.splits) l.fn.self l.self
