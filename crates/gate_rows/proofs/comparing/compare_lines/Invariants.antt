-- No line so far is wrong.
use Rattle.std.proofs.Common.{◌≡◌}
use Rattle.gate_rows.proofs.comparing.compare_lines.Given as goal

abbrev pub invariant-loop-answer : goal.invariant-loop-answer
invariant-loop-answer l = l.report.failed ≡ l.fn.report.failed
