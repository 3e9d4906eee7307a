-- The sum so far is that of the splits before the place.
use Rattle.std.proofs.Common.{◌≡◌, take}
use Rattle.book_splits.specs.Balance.{IsWithin}
use Rattle.book_sound.specs.ReconciliationRules.{marked_sum as sum_of}
use Rattle.book_check.proofs.reconciliations.marked_sum.Given as goal

abbrev pub invariant-loop-split : goal.invariant-loop-split
invariant-loop-split l = record {
  sums : l.sum ≡ sum_of (take l.split-index l.marked);
  within : IsWithin l.split-index l.sum;
}
