-- The splits so far, and then those of the rest.
use Rattle.std.proofs.Common.{◌≡◌, ◌++◌, drop}
use Rattle.book_step.specs.Voiding.{shown_on}
use Rattle.book_step.proofs.voided_splits.add_splits.Given as goal

abbrev pub invariant-loop-place : goal.invariant-loop-place
invariant-loop-place l =
    l.shown ++ shown_on l.account l.number l.void.reason (drop l.place l.splits) (drop l.place l.kept)
    ≡ l.fn.shown ++ shown_on l.account l.number l.void.reason l.splits l.kept
