-- The copy has the rows so far.
use Rattle.std.proofs.Common.{◌≡◌, take}
use Rattle.gate_rows.proofs.rows.copy_of.Given as goal

abbrev pub invariant-loop-row : goal.invariant-loop-row
invariant-loop-row l = l.copy.rows ≡ take l.row-index l.row-items
