use Rattle.std.proofs.Common.{take, ◌≡◌}
use Rattle.statement_texts.specs.Rows.{count_of_lines}
use Rattle.statement_texts.proofs.rows.count_lines.Given as goal

-- the lines of the statements so far were counted
abbrev pub invariant-loop-statement : goal.invariant-loop-statement
invariant-loop-statement l = l.lines ≡ count_of_lines (take l.statement-index l.statements)
