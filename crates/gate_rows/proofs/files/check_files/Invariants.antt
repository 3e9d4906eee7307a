-- The count did not fall so far.
use Rattle.std.proofs.Common.{◌≤◌}
use Rattle.gate_rows.proofs.files.check_files.Given as goal

abbrev pub invariant-loop-section : goal.invariant-loop-section
invariant-loop-section l = l.fn.report.failed ≤ l.report.failed
