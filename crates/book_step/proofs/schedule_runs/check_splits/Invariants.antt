use Rattle.std.proofs.Common.{◌≡◌, ◌+◌, drop, length}
use Rattle.book_splits.specs.Balance.{splits_of}
use Rattle.book_step.specs.ScheduleRuns.{splits_by}
use Rattle.book_step.proofs.schedule_runs.check_splits.Given as goal

abbrev pub invariant-loop-run : goal.invariant-loop-run
invariant-loop-run l =
    l.room + length (splits_of l.plain.transactions.entries) + splits_by l.runs
    ≡ 1000000 + splits_by (drop l.run-index l.runs)
