-- None of the rows so far has the key.
use Rattle.std.proofs.Common.{◌≡◌, drop}
use Rattle.gate_rows.specs.Comparing.{body_at}
use Rattle.gate_rows.proofs.comparing.body_at.Given as goal

abbrev pub invariant-loop-row : goal.invariant-loop-row
invariant-loop-row l = body_at l.key l.rows ≡ body_at l.key (drop l.row-index l.rows)
