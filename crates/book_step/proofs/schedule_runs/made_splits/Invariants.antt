use Rattle.std.proofs.Common.{◌≡◌, ◌+◌, ◌++◌, drop, length}
use Rattle.book_step.specs.ScheduleRuns.{made_splits}
use Rattle.book_step.proofs.schedule_runs.made_splits.Given as goal

abbrev pub invariant-loop-split : goal.invariant-loop-split
invariant-loop-split l = record {
  made : l.made ++ made_splits l.next (drop l.split-index l.splits) ≡ made_splits l.number l.splits;
  next : l.next + length (drop l.split-index l.splits) ≡ l.number + length l.splits;
}
