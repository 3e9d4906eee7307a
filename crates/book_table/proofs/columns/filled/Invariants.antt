use Rattle.std.proofs.Common.{◌≡◌, take}
use Rattle.book_table.specs.Columns.{filled}
use Rattle.book_table.proofs.columns.filled.Given as goal

-- up to the last one of the texts so far that isn't empty
abbrev pub invariant-loop-place : goal.invariant-loop-place
invariant-loop-place l = l.count ≡ filled (take l.place l.row)
