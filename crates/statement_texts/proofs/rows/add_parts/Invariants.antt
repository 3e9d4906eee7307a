use Rattle.std.proofs.Common.{take, ◌≡◌, ◌++◌}
use Rattle.statement_texts.specs.Rows.{part_rows}
use Rattle.statement_texts.proofs.rows.add_parts.Given as goal

-- the rows of the parts so far were added
abbrev pub invariant-loop-part : goal.invariant-loop-part
invariant-loop-part l = l.out.items ≡ l.fn.out.items ++ part_rows (take l.part-index l.parts)
