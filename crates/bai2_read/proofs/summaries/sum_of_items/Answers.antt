use Rattle.std.proofs.Common.{◌≡◌, ◌≤◌, List, ℕ, length, ◌+ℤ◌, ℤ, to_z, of_z, w64, arith}
use mir.Syntax.{w128}
use Rattle.std.proofs.lemmas.Int.{ints}
use Rattle.bai2_read.specs.Summaries.{items, items_after, sum_of_items}
use Rattle.bai2_read.proofs.SummaryLemmas.{begins_rest, items_rest, length-after_fields-le, sum_more}
use Rattle.bai2_read.proofs.summaries.sum_of_items.Goals as goal

pub loop-rest-init : goal.loop-rest-init
loop-rest-init c =
    let shorter : length c.after_fields-rest.result.now ≤ length c.args.body.now =
    rw c.after_fields-rest.ensures (length-after_fields-le 2 c.args.body.now) in
    let whole : sum_of_items (items c.args.body.now) ≡ sum_of_items (items_after 0 c.after_fields-rest.result.now) =
    items_rest (λ (its : List (List ℕ)). sum_of_items its) c.args.body.now c.after_fields-rest.result.now
    c.after_fields-rest.ensures in
    record {
      whole = omega (arith, ints, whole);
      begins = begins_rest c.args.body.now c.after_fields-rest.result.now c.after_fields-rest.ensures;
      shorter = shorter;
      low = omega (arith, ints);
      high = omega (arith, ints);
    }

pub loop-rest-preserved : goal.loop-rest-preserved
loop-rest-preserved c =
    let before : ℤ = to_z w128 c.loop-rest.sum-bits in
    let after : ℤ = to_z w128
    (of_z w128 (to_z w128 c.loop-rest.sum-bits +ℤ to_z w128 (of_z w128 (to_z w64 (of_z w64 c.item_amount.result))))) in
    let small = c.item_amount.ensures.size in
    let added : after ≡ before +ℤ c.item_amount.result = omega (arith, ints) in
    let shorter = c.behind-rest.ensures.shorter in
    record {
      whole =
          sum_more (sum_of_items (items c.args.body.now)) before c.item_amount.result after c.loop-rest.rest.now
          c.behind-rest.result.now
          c.loop-rest.invariant.whole c.behind-rest.ensures.rest c.item_amount.ensures.value added;
      begins = c.behind-rest.ensures.comma;
      shorter = omega arith;
      low = omega (arith, ints);
      high = omega (arith, ints);
    }
