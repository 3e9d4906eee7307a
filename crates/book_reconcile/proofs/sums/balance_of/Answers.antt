use Rattle.std.proofs.Common.{arith}
use Rattle.std.proofs.lemmas.Int.{ints}
use Rattle.book_reconcile.proofs.SumLemmas.{balance-split}
use Rattle.book_reconcile.proofs.sums.balance_of.Goals as goal

pub loop-split-preserved : goal.loop-split-preserved
loop-split-preserved c =
    let more = balance-split c.args.mark c.args.account c.args.splits.now c.loop-split.split-index c.split-item.result
    c.loop-split-test.true c.split-item.is in
    record { sums = omega (arith, ints, more); within = (omega (arith, ints), omega (arith, ints)) }
