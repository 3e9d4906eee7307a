use Rattle.std.proofs.Common.{take, ◌≡◌, ◌++◌}
use Rattle.statement_texts.specs.Rows.{line_rows}
use Rattle.statement_texts.proofs.rows.add_lines.Given as goal

-- the rows of the lines so far were added
abbrev pub invariant-loop-line : goal.invariant-loop-line
invariant-loop-line l = l.out.items ≡ l.fn.out.items ++ line_rows (take l.line-index l.lines)
