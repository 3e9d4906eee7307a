-- The sum so far is that of the splits before the place.
use Rattle.std.proofs.Common.{◌≡◌, take}
use Rattle.book_splits.specs.Balance.{IsWithin}
use Rattle.book_sound.specs.ReconciliationRules.{marked_sum as sum_of}
use Rattle.book_broken.proofs.reconciliations.marked_sum.Given as goal

abbrev pub invariant-loop-item : goal.invariant-loop-item
invariant-loop-item l = record {
  sums : l.sum ≡ sum_of (take l.item-index l.marked);
  within : IsWithin l.item-index l.sum;
}
