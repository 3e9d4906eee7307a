-- Each number so far was seen, and stood once.
use Rattle.std.proofs.Common.{◌≡◌, drop}
use Rattle.book_splits.specs.TransactionRules.{are_once as stand_once}
use Rattle.book_sound.specs.ReconciliationRules.{marked_numbers}
use Rattle.book_check.specs.Numbers.{are_new}
use Rattle.book_check.proofs.reconciliations.are_once.Given as goal

abbrev pub invariant-loop-split : goal.invariant-loop-split
invariant-loop-split l =
    stand_once (marked_numbers l.marked) ≡ are_new l.seen (marked_numbers (drop l.split-index l.marked))
