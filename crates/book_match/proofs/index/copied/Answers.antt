use Rattle.std.proofs.Common.{◌∙◌, arith}
use Rattle.book_match.proofs.IndexLemmas.{part-more}
use Rattle.book_match.proofs.index.copied.Goals as goal

pub loop-place-preserved : goal.loop-place-preserved
loop-place-preserved c = record {
  start = omega (arith, c.loop-place.invariant.start);
  end = omega (arith, c.loop-place.invariant.end, c.min-count.ensures, c.loop-place-test.true);
  splits = c.in_ok-extend_from_slice.ensures.items
      ∙ part-more c.args.entries.now.list c.loop-place.splits.items c.part-part.result.now c.args.start
      c.loop-place.place c.min-count.result c.loop-place.invariant.start c.loop-place.invariant.splits
      c.part-part.ensures.part (omega (arith, c.min-count.ensures));
}
