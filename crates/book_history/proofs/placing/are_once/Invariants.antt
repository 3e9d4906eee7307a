-- Those from the place on are left to compare.
use Rattle.std.proofs.Common.{◌≡◌, drop}
use Rattle.book_splits.specs.TransactionRules.{are_once, numbers_of}
use Rattle.book_history.proofs.placing.are_once.Given as goal

abbrev pub invariant-loop-place : goal.invariant-loop-place
invariant-loop-place l = are_once (numbers_of l.splits) ≡ are_once (numbers_of (drop l.place l.splits))
