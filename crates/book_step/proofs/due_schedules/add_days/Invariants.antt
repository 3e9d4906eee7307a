use Rattle.std.proofs.Common.{◌≡◌, ◌++◌, drop, map}
use Rattle.book_step.specs.Schedules.{due_on}
use Rattle.book_step.proofs.due_schedules.add_days.Given as goal

abbrev pub invariant-loop-day : goal.invariant-loop-day
invariant-loop-day l =
    l.due ++ map (due_on l.run.number) (drop l.day-index l.day-items)
    ≡ l.fn.due ++ map (due_on l.run.number) l.day-items
