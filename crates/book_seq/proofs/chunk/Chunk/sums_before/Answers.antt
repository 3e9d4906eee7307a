use Rattle.std.proofs.Common.{◌+◌, ◌-◌, ◌^◌, ap, sym, ◌∙◌, subst, arith}
use Rattle.book_seq.specs.Sums.{AreWithin, sum}
use Rattle.book_seq.specs.declared.sums.Sums.{Sums}
use Rattle.book_seq.proofs.SumLemmas.{are_within-le, are_within-sum, none_within, sums_of-get}
use Rattle.book_seq.proofs.chunk.Chunk.sums_before.Goals as goal

pub loop-before-init : goal.loop-before-init
loop-before-init g c = record {
  sums = c.none-sums.ensures;
  within = subst (AreWithin 0) (sym c.none-sums.ensures) (none_within 0);
  steps = omega arith;
}

pub plus-sums-requires : goal.plus-sums-requires
plus-sums-requires g c =
    are_within-le (c.loop-before.before + 1) (2 ^ 64 - 1) (sum c.loop-before.sums c.of.result) (omega arith)
    (are_within-sum c.loop-before.before 1 c.loop-before.sums c.of.result c.loop-before.invariant.within
    c.of.ensures.within)

pub loop-before-preserved : goal.loop-before-preserved
loop-before-preserved g c = record {
  sums = c.plus-sums.ensures ∙ ap (sum c.loop-before.sums) c.of.ensures.weights
      ∙ ap (λ (s : Sums). sum s (g.E.Weigh.weights c.entry.result.now)) c.loop-before.invariant.sums
      ∙ sym (sums_of-get g.E.Weigh.weights c.args.self.now.entries c.loop-before.before c.entry.result.now
      c.entry.ensures.entry);
  within = subst (AreWithin (c.loop-before.before + 1)) (sym c.plus-sums.ensures) (are_within-sum c.loop-before.before 1
      c.loop-before.sums c.of.result c.loop-before.invariant.within c.of.ensures.within);
  steps = omega (arith, c.entry.ensures.steps, c.loop-before.invariant.steps);
}
