use Rattle.std.proofs.Common.{◌≡◌, ◌++◌, drop}
use Rattle.book_table.specs.Columns.{columns_from}
use Rattle.book_table.proofs.columns.columns_of.Given as goal

-- the columns so far, and those that are left
abbrev pub invariant-loop-place : goal.invariant-loop-place
invariant-loop-place l = l.columns ++ columns_from l.place (drop l.place l.sides) l.rows ≡ columns_from 0 l.sides l.rows
