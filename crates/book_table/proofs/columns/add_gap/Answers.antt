use Rattle.std.proofs.Common.{rules}
use Rattle.book_table.proofs.ColumnLemmas.{gap_before}
use Rattle.book_table.proofs.columns.add_gap.Goals as goal

pub returns-then-place-row : goal.returns-then-place-row
returns-then-place-row c = rw (gap_before c.args.row.now c.args.place c.if-place-row.true) (search rules)
