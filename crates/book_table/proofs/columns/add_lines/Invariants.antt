use Rattle.std.proofs.Common.{◌≡◌, ◌++◌, string_bytes, take}
use Rattle.std.specs.List.{flat_map}
use Rattle.book_table.specs.Columns.{line, trimmed}
use Rattle.book_table.proofs.columns.add_lines.Given as goal

-- the lines of the rows so far were added
abbrev pub invariant-loop-row : goal.invariant-loop-row
invariant-loop-row l =
    string_bytes l.out ≡ string_bytes l.fn.out ++ flat_map (λ row. line l.columns (trimmed row)) (take l.row-index l.rows)
