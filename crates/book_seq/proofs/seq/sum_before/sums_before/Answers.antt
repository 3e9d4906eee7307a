use Rattle.std.proofs.Common.{ℕ, ◌+◌, ◌-◌, ◌^◌, ◌<◌, length, take, drop, ap, sym, ◌∙◌, subst, arith}
use Rattle.std.proofs.Math.ListN.{length-append}
use Rattle.book_seq.specs.Chunks.{ArePacked, Piece, list_of}
use Rattle.book_seq.specs.Sums.{AreWithin, sum, sums_of}
use Rattle.book_seq.specs.declared.sums.Sums.{Sums}
use Rattle.book_seq.proofs.ChunkLemmas.{drop_here, length_more, list_here, list_more, packed-tail}
use Rattle.book_seq.proofs.SumLemmas.{are_within-le, are_within-sum, sums_of-append, sums_of-place}
use Rattle.book_seq.proofs.seq.sum_before.sums_before.Goals as goal

pub plus-requires : goal.plus-requires
plus-requires g c =
    let before : ℕ = length (list_of (take c.loop-chunk.chunk-index c.args.chunks.now)) in
    are_within-le (before + c.loop-chunk.left) (2 ^ 64 - 1) (sum c.loop-chunk.sums c.sums_before.result)
    (omega (arith, c.loop-chunk.invariant.place_is, c.ranges.place.fits))
    (are_within-sum before c.loop-chunk.left c.loop-chunk.sums c.sums_before.result c.loop-chunk.invariant.within
    c.sums_before.ensures.within)

pub returns-then-left-len-clause-sums : goal.returns-then-left-len-clause-sums
returns-then-left-len-clause-sums g c =
    let i : ℕ = c.loop-chunk.chunk-index in
    let here : Piece g.row.E.Denot = c.chunk-item.result in
    let whole = list_here c.args.chunks.now i here c.loop-chunk-test.true c.chunk-item.is in
    c.plus.ensures ∙ ap (λ (s : Sums). sum s c.sums_before.result) c.loop-chunk.invariant.sums
    ∙ ap (sum (sums_of g.E.Weigh.weights (list_of (take i c.args.chunks.now)))) c.sums_before.ensures.sums
    ∙ sym (sums_of-place g.E.Weigh.weights (list_of c.args.chunks.now) (list_of (take i c.args.chunks.now)) here.entries
    (list_of (drop (i + 1) c.args.chunks.now)) c.args.place c.loop-chunk.left whole c.loop-chunk.invariant.place_is
    (omega (arith, c.if-left-len.true, c.len.ensures)))

pub plus-sums-requires : goal.plus-sums-requires
plus-sums-requires g c =
    let before : ℕ = length (list_of (take c.loop-chunk.chunk-index c.args.chunks.now)) in
    let here : ℕ = length c.chunk-item.result.entries in
    are_within-le (before + here) (2 ^ 64 - 1) (sum c.loop-chunk.sums c.sums.result)
    (omega (arith, c.loop-chunk.invariant.place_is, c.ranges.place.fits, c.if-left-len.false, c.len.ensures))
    (are_within-sum before here c.loop-chunk.sums c.sums.result c.loop-chunk.invariant.within c.sums.ensures.within)

pub loop-chunk-preserved : goal.loop-chunk-preserved
loop-chunk-preserved g c =
    let i : ℕ = c.loop-chunk.chunk-index in
    let here : Piece g.row.E.Denot = c.chunk-item.result in
    let inv = c.loop-chunk.invariant in
    let below : i < length c.args.chunks.now = c.loop-chunk-test.true in
    let more = length_more c.args.chunks.now i here below c.chunk-item.is in
    let rest = drop_here c.args.chunks.now i here below c.chunk-item.is in
    let left = ap (λ l. length (list_of l)) rest
    ∙ length-append here.entries (list_of (drop (i + 1) c.args.chunks.now)) in
    record {
      place_is = omega (arith, more, inv.place_is);
      left = omega (arith, left, inv.left);
      packed = packed-tail here (drop (i + 1) c.args.chunks.now) (subst ArePacked rest inv.packed);
      sums = c.plus-sums.ensures ∙ ap (λ (s : Sums). sum s c.sums.result) inv.sums
          ∙ ap (sum (sums_of g.E.Weigh.weights (list_of (take i c.args.chunks.now)))) c.sums.ensures.sums
          ∙ sym (ap (sums_of g.E.Weigh.weights) (list_more c.args.chunks.now i here below c.chunk-item.is)
          ∙ sums_of-append g.E.Weigh.weights (list_of (take i c.args.chunks.now)) here.entries);
      within = subst (λ (n : ℕ). AreWithin n c.plus-sums.result) (sym more) (subst (AreWithin
          (length (list_of (take i c.args.chunks.now)) + length here.entries)) (sym c.plus-sums.ensures)
          (are_within-sum (length (list_of (take i c.args.chunks.now))) (length here.entries) c.loop-chunk.sums
          c.sums.result inv.within c.sums.ensures.within));
      steps = omega (arith, inv.steps, c.sums.ensures.steps);
    }
