-- One split more is in the sum.
use Rattle.std.proofs.Common.{◌≡◌, ◌+◌, take, pos, ap, ◌∙◌, sym, arith, ◌+ℤ◌}
use Rattle.std.proofs.lemmas.Int.{ints}
use Rattle.book_sound.specs.ReconciliationRules.{marked_sum as sum_of}
use Rattle.book_splits.specs.declared.reconciliation.MarkedSplit.{MarkedSplit}
use Rattle.book_check.proofs.ReconciliationLemmas.{sum_more}
use Rattle.book_broken.proofs.reconciliations.marked_sum.Goals as goal

abbrev none : MarkedSplit
none = record { split = 0; quantity = pos 0 }

pub loop-item-preserved : goal.loop-item-preserved
loop-item-preserved c =
    let more : sum_of (take (c.loop-item.item-index + 1) c.args.marked.now)
    ≡ sum_of (take c.loop-item.item-index c.args.marked.now) +ℤ c.quantity_of.result =
    sum_more c.args.marked.now c.loop-item.item-index none c.loop-item-test.true
    ∙ ap (λ z. sum_of (take c.loop-item.item-index c.args.marked.now) +ℤ z) (sym c.quantity_of.ensures) in
    record {
      sums = omega (arith, ints);
      within = (omega (arith, ints), omega (arith, ints));
    }
