-- The count did not fall so far.
use Rattle.std.proofs.Common.{◌≤◌}
use Rattle.gate_rows.proofs.page_answers.check_tables.Given as goal

abbrev pub invariant-loop-answer : goal.invariant-loop-answer
invariant-loop-answer l = l.fn.report.failed ≤ l.report.failed
