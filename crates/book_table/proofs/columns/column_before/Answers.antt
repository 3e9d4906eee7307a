use Rattle.book_table.proofs.ColumnLemmas.{before_more}
use Rattle.book_table.proofs.columns.column_before.Goals as goal

pub returns-then-place-row : goal.returns-then-place-row
returns-then-place-row c = before_more c.args.column c.args.row.now c.args.place c.if-place-row.true
