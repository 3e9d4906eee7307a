use Rattle.std.proofs.Common.{◌≡◌, ◌++◌, drop}
use Rattle.book_step.specs.Schedules.{days_due}
use Rattle.book_step.proofs.due_schedules.days_due.Given as goal

abbrev pub invariant-loop-run : goal.invariant-loop-run
invariant-loop-run l = l.due ++ days_due (drop l.run-index l.runs) ≡ days_due l.runs
