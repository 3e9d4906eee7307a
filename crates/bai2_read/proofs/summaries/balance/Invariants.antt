use Rattle.std.proofs.Common.{◌≡◌, length}
use Rattle.bai2_read.specs.Summaries.{BeginsField, balance, items, items_after}
use Rattle.bai2_read.proofs.summaries.balance.Given as goal

abbrev pub invariant-loop-item_type : goal.invariant-loop-item_type
invariant-loop-item_type l = record {
  whole : balance l.item_type (items l.body) ≡ balance l.item_type (items_after 0 l.rest);
  begins : BeginsField l.rest;
}

abbrev pub decreases-loop-item_type : goal.decreases-loop-item_type
decreases-loop-item_type l = length l.rest
