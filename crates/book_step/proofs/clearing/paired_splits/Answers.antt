-- The split of one pair more is put.
use Rattle.std.proofs.Common.{arith}
use Rattle.book_step.proofs.MatchWalkLemmas.{paired-more}
use Rattle.book_step.proofs.clearing.paired_splits.Goals as goal

pub loop-pair-preserved : goal.loop-pair-preserved
loop-pair-preserved c =
    paired-more c.args.pairs.now c.loop-pair.pair-index _ c.loop-pair.taken c.insert.new.self
    (omega (arith, c.loop-pair-test.true)) c.in_ok-insert.ensures.updates.0 c.loop-pair.invariant
