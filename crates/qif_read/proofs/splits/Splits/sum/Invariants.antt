use Rattle.std.proofs.Common.{◌≡◌, ◌*◌, ◌^◌, take, pos, ◌-ℤ◌, ◌≤ℤ◌}
use Rattle.qif_read.specs.Kept.{sum_of_splits}
use Rattle.qif_read.proofs.splits.Splits.sum.Given as goal

abbrev pub invariant-loop-split : goal.invariant-loop-split
invariant-loop-split l = record {
  sums : l.sum ≡ sum_of_splits (take l.split-index l.self);
  above : (pos 0 -ℤ pos (2 ^ 63 * l.split-index)) ≤ℤ l.sum;
  below : l.sum ≤ℤ pos (2 ^ 63 * l.split-index);
}
