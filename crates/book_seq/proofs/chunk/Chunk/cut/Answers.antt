use Rattle.std.proofs.Common.{ℕ, Bool, List, ◌+◌, ◌-◌, ◌/◌, ◌^◌, ◌<◌, sym, ◌∙◌, subst, arith}
use Rattle.book_seq.proofs.CutLemmas.{before_more, cut-from, narrow_high, narrow_low, narrow_none, others_more}
use Rattle.book_seq.proofs.CutLemmas.{parted-by}
use Rattle.book_seq.proofs.ListLemmas.{slice_get_or}
use Rattle.book_seq.proofs.chunk.Chunk.cut.Goals.{then-passes, else-passes}
use Rattle.book_seq.proofs.chunk.Chunk.cut.Goals as goal

pub returns-then-low-high-clause-cut : goal.returns-then-low-high-clause-cut
returns-then-low-high-clause-cut g c =
    let inv = c.loop-round.invariant in
    cut-from (g.T.Test.is_passed c.args.test.now) c.args.self.now.entries c.loop-round.low
    (omega (arith, inv.within, inv.bound)) inv.before
    (λ k d ge lt. inv.others k d (omega (arith, ge, c.if-low-high.true)) lt)

pub loop-round-preserved : goal.loop-round-preserved
loop-round-preserved g c =
    let es : List g.row.E.Denot = c.args.self.now.entries in
    let test : g.row.E.Denot → Bool = g.T.Test.is_passed c.args.test.now in
    let inv = c.loop-round.invariant in
    let middle : ℕ = c.loop-round.low + (c.loop-round.high - c.loop-round.low) / 2 in
    let less : c.loop-round.low < c.loop-round.high = omega (arith, inv.within, c.if-low-high.false) in
    let at = slice_get_or es middle c.entry.result.now c.entry.ensures.entry in
    let parted = parted-by test es c.requires.parted in
    elim c.if-passes.branch [
      | then-passes w ↦ record {
        within = omega (arith, w.low-is, w.high-is, less);
        bound = omega (arith, w.high-is, inv.bound);
        before = λ k d lt. before_more test es middle c.entry.result.now parted at.0 at.1
            (sym c.passes.ensures ∙ w.if-passes.true) k d (omega (arith, w.low-is, lt));
        others = λ k d ge lt. inv.others k d (omega (arith, w.high-is, ge)) lt;
        narrow = subst (λ (n : ℕ). c.if-passes.high - n < 2 ^ (10 - (c.loop-round._round + 1))) (sym w.low-is)
            (subst (λ (n : ℕ). n - (middle + 1) < 2 ^ (10 - (c.loop-round._round + 1))) (sym w.high-is)
            (narrow_low 10 c.loop-round._round c.loop-round.low c.loop-round.high c.loop-round-test.true less
            inv.narrow));
        steps = omega (arith, inv.steps, c.entry.ensures.steps);
      }
      | else-passes w ↦ record {
        within = omega (arith, w.low-is, w.high-is, less);
        bound = omega (arith, w.high-is, inv.bound, less);
        before = λ k d lt. inv.before k d (omega (arith, w.low-is, lt));
        others = λ k d ge lt. others_more test es middle c.entry.result.now parted at.0 at.1
            (sym c.passes.ensures ∙ w.if-passes.false) k d (omega (arith, w.high-is, ge)) lt;
        narrow = subst (λ (n : ℕ). c.if-passes.high - n < 2 ^ (10 - (c.loop-round._round + 1))) (sym w.low-is)
            (subst (λ (n : ℕ). n - c.loop-round.low < 2 ^ (10 - (c.loop-round._round + 1))) (sym w.high-is)
            (narrow_high 10 c.loop-round._round c.loop-round.low c.loop-round.high c.loop-round-test.true less
            inv.narrow));
        steps = omega (arith, inv.steps, c.entry.ensures.steps);
      }
    ]

pub returns-clause-cut : goal.returns-clause-cut
returns-clause-cut g c =
    let inv = c.loop-round.invariant in
    let done : c.loop-round.high - c.loop-round.low < 1 =
    narrow_none 10 c.loop-round._round (c.loop-round.high - c.loop-round.low)
    (omega (arith, c.loop-round-test.false, c.loop-round.auto._round-end)) inv.narrow in
    cut-from (g.T.Test.is_passed c.args.test.now) c.args.self.now.entries c.loop-round.low
    (omega (arith, inv.within, inv.bound)) inv.before (λ k d ge lt. inv.others k d (omega (arith, ge, done)) lt)
