use Rattle.std.proofs.Common.{◌≡◌, map, take}
use Rattle.book_reports.specs.Layout.{printed}
use Rattle.book_table.proofs.columns.printed_rows.Given as goal

-- the rows so far
abbrev pub invariant-loop-row : goal.invariant-loop-row
invariant-loop-row l = l.shown ≡ map (map printed) (take l.row-index l.rows)
