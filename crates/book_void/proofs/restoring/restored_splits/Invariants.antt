-- The splits so far, and then those that the rest gives.
use Rattle.std.proofs.Common.{◌≡◌, ◌++◌, drop}
use Rattle.book_void.specs.Voiding.{restored_splits}
use Rattle.book_void.proofs.restoring.restored_splits.Given as goal

abbrev pub invariant-loop-place : goal.invariant-loop-place
invariant-loop-place l =
    l.restored ++ restored_splits (drop l.place l.splits) (drop l.place l.kept) ≡ restored_splits l.splits l.kept
