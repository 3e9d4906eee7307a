use Rattle.std.proofs.Common.{◌≡◌, ◌++◌, ◌^◌, drop}
use Rattle.book_step.specs.ScheduleRuns.{MadeBelow, ran_by, schedule_edits}
use Rattle.book_step.proofs.schedule_runs.with_schedules.Given as goal

abbrev pub invariant-loop-run : goal.invariant-loop-run
invariant-loop-run l = record {
  edits : l.edits ++ schedule_edits (ran_by (drop l.run-index l.runs))
      ≡ l.fn.edits ++ schedule_edits (ran_by l.runs);
  below : MadeBelow (2 ^ 63) (drop l.run-index l.runs);
}
