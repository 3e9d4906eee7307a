use Rattle.std.proofs.Common.{◌≡◌, ◌+◌, take, arith, ◌+ℤ◌}
use Rattle.std.proofs.lemmas.Int.{ints}
use Rattle.bai2_read.specs.Statements.{sum_of_lines}
use Rattle.bai2_read.proofs.TotalLemmas.{sum_of_lines_more}
use Rattle.bai2_read.proofs.statements.sum_of_lines.Goals as goal

pub loop-line-preserved : goal.loop-line-preserved
loop-line-preserved c =
    let more : sum_of_lines (take (c.loop-line.line-index + 1) c.args.lines.now) ≡ sum_of_lines
    (take c.loop-line.line-index c.args.lines.now) +ℤ c.line-item.result.amount =
    sum_of_lines_more c.args.lines.now c.loop-line.line-index c.line-item.result c.loop-line-test.true c.line-item.is in
    record {
      sum = omega (arith, ints);
      low = omega (arith, ints);
      high = omega (arith, ints);
    }
