use Rattle.std.proofs.Common.{◌≡◌, length}
use Rattle.std.specs.List.{list_all}
use Rattle.bai2_read.specs.Summaries.{BeginsField, has_date, items, items_after}
use Rattle.bai2_read.proofs.summaries.have_dates.Given as goal

abbrev pub invariant-loop-rest : goal.invariant-loop-rest
invariant-loop-rest l = record {
  whole : list_all has_date (items l.body) ≡ list_all has_date (items_after 0 l.rest);
  begins : BeginsField l.rest;
}

abbrev pub decreases-loop-rest : goal.decreases-loop-rest
decreases-loop-rest l = length l.rest
