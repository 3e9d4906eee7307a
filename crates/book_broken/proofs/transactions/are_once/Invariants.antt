-- The numbers so far stand once.
use Rattle.std.proofs.Common.{◌≡◌, drop}
use Rattle.book_splits.specs.TransactionRules.{are_once as stand_once, numbers_of}
use Rattle.book_broken.proofs.transactions.are_once.Given as goal

abbrev pub invariant-loop-place : goal.invariant-loop-place
invariant-loop-place l = stand_once (numbers_of l.splits) ≡ stand_once (numbers_of (drop l.place l.splits))
