-- The count did not fall so far.
use Rattle.std.proofs.Common.{◌≤◌}
use Rattle.gate_rows.proofs.page_answers.check_pairs.Given as goal

abbrev pub invariant-loop-command : goal.invariant-loop-command
invariant-loop-command l = l.fn.report.failed ≤ l.report.failed
