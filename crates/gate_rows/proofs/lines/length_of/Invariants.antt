-- The length of what is left to pass over, with the place, is that of the first lines.
use Rattle.std.proofs.Common.{◌≡◌, ◌+◌, drop}
use Rattle.gate_rows.specs.Lines.{lines_length}
use Rattle.gate_rows.proofs.lines.length_of.Given as goal

abbrev pub invariant-loop-place : goal.invariant-loop-place
invariant-loop-place l = lines_length l.left (drop l.place l.text) + l.place ≡ lines_length l.count l.text
