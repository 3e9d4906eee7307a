use Rattle.std.proofs.Common.{ℕ, Bool, List, ◌+◌, ◌-◌, ◌/◌, ◌^◌, ◌<◌, length, sym, ◌∙◌, subst, arith}
use Rattle.book_seq.specs.Chunks.{Piece}
use Rattle.book_seq.specs.Cuts.{is_passed}
use Rattle.book_seq.proofs.CutLemmas.{before_more, chunks-parted, cut-from, narrow_high, narrow_low, narrow_none}
use Rattle.book_seq.proofs.CutLemmas.{others_more}
use Rattle.book_seq.proofs.seq.search.chunk_of.Goals.{then-is_passed, else-is_passed}
use Rattle.book_seq.proofs.seq.search.chunk_of.Goals as goal

pub returns-then-low-high-clause-cut : goal.returns-then-low-high-clause-cut
returns-then-low-high-clause-cut g c =
    let inv = c.loop-round.invariant in
    cut-from (is_passed (g.T.Test.is_passed c.args.test.now)) c.args.chunks.now c.loop-round.low
    (omega (arith, inv.within, inv.bound)) inv.before
    (λ k d ge lt. inv.others k d (omega (arith, ge, c.if-low-high.true)) lt)

pub loop-round-preserved : goal.loop-round-preserved
loop-round-preserved g c =
    let ps : List (Piece g.row.E.Denot) = c.args.chunks.now in
    let test : Piece g.row.E.Denot → Bool = is_passed (g.T.Test.is_passed c.args.test.now) in
    let inv = c.loop-round.invariant in
    let middle : ℕ = c.loop-round.low + (c.loop-round.high - c.loop-round.low) / 2 in
    let less : c.loop-round.low < c.loop-round.high = omega (arith, inv.within, c.if-low-high.false) in
    let below : middle < length ps = omega (arith, less, inv.bound) in
    let parted = chunks-parted (g.T.Test.is_passed c.args.test.now) ps c.requires.packed c.requires.parted in
    elim c.if-is_passed.branch [
      | then-is_passed w ↦ record {
        within = omega (arith, w.low-is, w.high-is, less);
        bound = omega (arith, w.high-is, inv.bound);
        before = λ k d lt. before_more test ps middle c.index-chunks-middle.result parted below c.index-chunks-middle.is
            (sym c.is_passed.ensures.passed ∙ w.if-is_passed.true) k d (omega (arith, w.low-is, lt));
        others = λ k d ge lt. inv.others k d (omega (arith, w.high-is, ge)) lt;
        narrow = subst (λ (n : ℕ). c.if-is_passed.high - n < 2 ^ (55 - (c.loop-round._round + 1))) (sym w.low-is)
            (subst (λ (n : ℕ). n - (middle + 1) < 2 ^ (55 - (c.loop-round._round + 1))) (sym w.high-is)
            (narrow_low 55 c.loop-round._round c.loop-round.low c.loop-round.high c.loop-round-test.true less
            inv.narrow));
        steps = omega (arith, inv.steps, c.is_passed.ensures.steps);
      }
      | else-is_passed w ↦ record {
        within = omega (arith, w.low-is, w.high-is, less);
        bound = omega (arith, w.high-is, inv.bound, less);
        before = λ k d lt. inv.before k d (omega (arith, w.low-is, lt));
        others = λ k d ge lt. others_more test ps middle c.index-chunks-middle.result parted below
            c.index-chunks-middle.is
            (sym c.is_passed.ensures.passed ∙ w.if-is_passed.false) k d (omega (arith, w.high-is, ge)) lt;
        narrow = subst (λ (n : ℕ). c.if-is_passed.high - n < 2 ^ (55 - (c.loop-round._round + 1))) (sym w.low-is)
            (subst (λ (n : ℕ). n - c.loop-round.low < 2 ^ (55 - (c.loop-round._round + 1))) (sym w.high-is)
            (narrow_high 55 c.loop-round._round c.loop-round.low c.loop-round.high c.loop-round-test.true less
            inv.narrow));
        steps = omega (arith, inv.steps, c.is_passed.ensures.steps);
      }
    ]

pub returns-clause-cut : goal.returns-clause-cut
returns-clause-cut g c =
    let inv = c.loop-round.invariant in
    let done : c.loop-round.high - c.loop-round.low < 1 =
    narrow_none 55 c.loop-round._round (c.loop-round.high - c.loop-round.low)
    (omega (arith, c.loop-round-test.false, c.loop-round.auto._round-end)) inv.narrow in
    cut-from (is_passed (g.T.Test.is_passed c.args.test.now)) c.args.chunks.now c.loop-round.low
    (omega (arith, inv.within, inv.bound)) inv.before (λ k d ge lt. inv.others k d (omega (arith, ge, done)) lt)
