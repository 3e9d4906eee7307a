use Rattle.std.proofs.Common.{◌≡◌, ◌+◌, take, ap, ◌∙◌, sym, arith, ◌+ℤ◌}
use Rattle.std.proofs.lemmas.Int.{ints}
use Rattle.book_splits.specs.Balance.{sum_of_values}
use Rattle.book_splits.proofs.CheckLemmas.{sum_of_values-take}
use Rattle.book_splits.specs.declared.split.Split.{Split}
use Rattle.book_splits.proofs.check.sum_of_values.Goals as goal

pub loop-split-preserved : goal.loop-split-preserved
loop-split-preserved c =
    let more : sum_of_values (take (c.loop-split.split-index + 1) c.args.splits.now)
    ≡ sum_of_values (take c.loop-split.split-index c.args.splits.now) +ℤ c.split-item.result.value =
    sum_of_values-take c.args.splits.now c.loop-split.split-index c.split-item.result c.loop-split-test.true
    ∙ ap (λ (split : Split). sum_of_values (take c.loop-split.split-index c.args.splits.now) +ℤ split.value)
    (sym c.split-item.is) in
    record {
      sums = omega (arith, ints);
      within = (omega (arith, ints), omega (arith, ints));
    }
