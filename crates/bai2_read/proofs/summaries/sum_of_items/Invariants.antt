use Rattle.std.proofs.Common.{◌≡◌, ◌*◌, ◌-◌, length, ◌≤◌, ◌^◌, pos, neg_ℤ, ◌≤ℤ◌}
use Rattle.std.specs.Prelude.{◌+ℤ◌}
use Rattle.bai2_read.specs.Summaries.{BeginsField, items, items_after, sum_of_items}
use Rattle.bai2_read.proofs.summaries.sum_of_items.Given as goal

abbrev pub invariant-loop-rest : goal.invariant-loop-rest
invariant-loop-rest l = record {
  whole : sum_of_items (items l.body) ≡ l.sum +ℤ sum_of_items (items_after 0 l.rest);
  begins : BeginsField l.rest;
  shorter : length l.rest ≤ length l.body;
  low : neg_ℤ (pos (10 ^ 12 * (length l.body - length l.rest))) ≤ℤ l.sum;
  high : l.sum ≤ℤ pos (10 ^ 12 * (length l.body - length l.rest));
}

abbrev pub decreases-loop-rest : goal.decreases-loop-rest
decreases-loop-rest l = length l.rest
