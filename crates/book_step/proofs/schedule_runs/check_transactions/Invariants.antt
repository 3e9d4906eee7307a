use Rattle.std.proofs.Common.{◌≡◌, ◌+◌, drop, length}
use Rattle.book_step.specs.ScheduleRuns.{transactions_by}
use Rattle.book_step.proofs.schedule_runs.check_transactions.Given as goal

abbrev pub invariant-loop-run : goal.invariant-loop-run
invariant-loop-run l =
    l.room + length l.plain.transactions.entries + transactions_by l.runs
    ≡ 200000 + transactions_by (drop l.run-index l.runs)
