use Rattle.std.proofs.Common.{◌≡◌, take}
use Rattle.book_splits.specs.Balance.{IsWithin, sum_of_values}
use Rattle.book_splits.proofs.check.sum_of_values.Given as goal

abbrev pub invariant-loop-split : goal.invariant-loop-split
invariant-loop-split l = record {
  sums : l.sum ≡ sum_of_values (take l.split-index l.splits);
  within : IsWithin l.split-index l.sum;
}
