use Rattle.std.proofs.Common.{take, ◌≡◌, ◌++◌}
use Rattle.statement_texts.specs.Rows.{statement_rows}
use Rattle.statement_texts.proofs.rows.add_statements.Given as goal

-- the rows of the statements so far were added
abbrev pub invariant-loop-statement : goal.invariant-loop-statement
invariant-loop-statement l = l.out.items ≡ l.fn.out.items ++ statement_rows (take l.statement-index l.statements)
