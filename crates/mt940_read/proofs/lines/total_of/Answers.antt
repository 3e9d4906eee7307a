use Rattle.std.proofs.Common.{◌≡◌, ◌+◌, take, ap, ◌∙◌, sym, arith, ◌+ℤ◌}
use Rattle.std.proofs.lemmas.Int.{ints}
use Rattle.mt940_read.specs.Totals.{total_of}
use Rattle.book_statement.specs.declared.statement_line.StatementLine.{StatementLine}
use Rattle.mt940_read.proofs.TotalLemmas.{total_of-take}
use Rattle.mt940_read.proofs.lines.total_of.Goals as goal

pub loop-line-preserved : goal.loop-line-preserved
loop-line-preserved c =
    let more : total_of (take (c.loop-line.line-index + 1) c.args.lines.now) ≡ total_of
    (take c.loop-line.line-index c.args.lines.now) +ℤ c.line-item.result.amount =
    total_of-take c.args.lines.now c.loop-line.line-index c.line-item.result c.loop-line-test.true
    ∙ ap (λ (line : StatementLine). total_of (take c.loop-line.line-index c.args.lines.now) +ℤ line.amount)
    (sym c.line-item.is) in
    record {
      sums = omega (arith, ints);
      within = (omega (arith, ints), omega (arith, ints));
    }
