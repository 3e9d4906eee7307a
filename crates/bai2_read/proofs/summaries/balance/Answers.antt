use Rattle.std.proofs.Common.{List, ℕ}
use Rattle.bai2_read.specs.Summaries.{balance}
use Rattle.bai2_read.proofs.SummaryLemmas.{begins_rest, items_rest}
use Rattle.bai2_read.proofs.summaries.balance.Goals as goal

pub loop-item_type-init : goal.loop-item_type-init
loop-item_type-init c = record {
  whole = items_rest (λ (its : List (List ℕ)). balance c.args.item_type.now its) c.args.body.now
      c.after_fields-rest.result.now c.after_fields-rest.ensures;
  begins = begins_rest c.args.body.now c.after_fields-rest.result.now c.after_fields-rest.ensures;
}
