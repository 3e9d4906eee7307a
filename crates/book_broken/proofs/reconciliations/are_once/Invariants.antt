-- The numbers so far stand once.
use Rattle.std.proofs.Common.{◌≡◌, drop}
use Rattle.book_splits.specs.TransactionRules.{are_once as stand_once}
use Rattle.book_sound.specs.ReconciliationRules.{marked_numbers}
use Rattle.book_broken.proofs.reconciliations.are_once.Given as goal

abbrev pub invariant-loop-place : goal.invariant-loop-place
invariant-loop-place l = stand_once (marked_numbers l.marked) ≡ stand_once (marked_numbers (drop l.place l.marked))
