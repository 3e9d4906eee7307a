use Rattle.std.proofs.Common.{◌≡◌, ◌++◌, drop, string_bytes}
use Rattle.book_table.specs.Columns.{line}
use Rattle.book_table.proofs.columns.add_line.Given as goal

-- what was added, with the texts that are left, is the whole line
abbrev pub invariant-loop-place : goal.invariant-loop-place
invariant-loop-place l =
    string_bytes l.out ++ line (drop l.place l.columns) (drop l.place l.row) ≡ string_bytes l.fn.out ++ line l.columns l.row
