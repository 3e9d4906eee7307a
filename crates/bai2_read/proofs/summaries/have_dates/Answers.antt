use Rattle.std.proofs.Common.{List, ℕ}
use Rattle.std.specs.List.{list_all}
use Rattle.bai2_read.specs.Summaries.{has_date}
use Rattle.bai2_read.proofs.SummaryLemmas.{begins_rest, items_rest}
use Rattle.bai2_read.proofs.summaries.have_dates.Goals as goal

pub loop-rest-init : goal.loop-rest-init
loop-rest-init c = record {
  whole = items_rest (λ (its : List (List ℕ)). list_all has_date its) c.args.body.now c.after_fields-rest.result.now
      c.after_fields-rest.ensures;
  begins = begins_rest c.args.body.now c.after_fields-rest.result.now c.after_fields-rest.ensures;
}
