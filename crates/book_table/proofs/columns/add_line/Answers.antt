use Rattle.std.proofs.Common.{rules, arith}
use Rattle.book_table.proofs.ColumnLemmas.{line_end}
use Rattle.book_table.proofs.columns.add_line.Goals as goal

pub returns : goal.returns
returns c =
    let ends = line_end c.args.columns.now c.args.row.now c.loop-place.place (omega (arith, c.min-place-end.ensures)) in
    let whole = rw ends at c.loop-place.invariant in
    rw (← whole) (search rules)
