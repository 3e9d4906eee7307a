use Rattle.std.proofs.Common.{◌≡◌, drop, max}
use Rattle.book_table.specs.Columns.{widest}
use Rattle.book_table.proofs.columns.widest.Given as goal

-- the widest text so far, and those of the rows that are left
abbrev pub invariant-loop-row : goal.invariant-loop-row
invariant-loop-row l = max l.most (widest l.place (drop l.row-index l.rows)) ≡ widest l.place l.rows
