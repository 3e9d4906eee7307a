use Rattle.std.proofs.Common.{◌≡◌, ◌+◌, ◌<◌, List, length, get_or, take, ap, ◌∙◌, sym, arith, pos, ◌+ℤ◌}
use Rattle.std.specs.Prelude.{unwrap_or}
use Rattle.std.proofs.lemmas.Int.{ints}
use Rattle.qif_read.specs.Kept.{sum_of_splits}
use Rattle.qif_read.proofs.SplitLemmas.{sum_of_splits-take}
use Rattle.qif_read.specs.declared.split.SplitSaid.{SplitSaid}
use Rattle.qif_read.proofs.splits.Splits.sum.Goals as goal

pub loop-split-preserved : goal.loop-split-preserved
loop-split-preserved c =
    let same : c.deref-split-items.result.now ≡ c.args.self.now = c.deref-split-items.ensures.value ∙ c.self.view_is in
    let is : c.split-item.result
    ≡ get_or c.args.self.now c.loop-split.split-index c.split-item.result = c.split-item.is
    ∙ ap (λ (splits : List SplitSaid). get_or splits c.loop-split.split-index c.split-item.result) same in
    let lt : c.loop-split.split-index < length c.args.self.now = omega (arith, ap length same) in
    let more : sum_of_splits (take (c.loop-split.split-index + 1) c.args.self.now)
    ≡ sum_of_splits (take c.loop-split.split-index c.args.self.now) +ℤ c.unwrap_or.result =
    sum_of_splits-take c.args.self.now c.loop-split.split-index c.split-item.result lt
    ∙ ap (λ (split : SplitSaid). sum_of_splits
    (take c.loop-split.split-index c.args.self.now) +ℤ unwrap_or split.amount (pos 0)) (sym is)
    ∙ ap (λ value. sum_of_splits (take c.loop-split.split-index c.args.self.now) +ℤ value) (sym c.unwrap_or.ensures) in
    record {
      sums = omega (arith, ints);
      above = omega (arith, ints);
      below = omega (arith, ints);
    }
