use Rattle.std.proofs.Common.{All, take}
use Rattle.book_commodity.specs.Day.{IsDay}
use Rattle.book_step.proofs.due_schedules.start_in_range.Given as goal

abbrev pub invariant-loop-recurrence : goal.invariant-loop-recurrence
invariant-loop-recurrence l = All (λ recurrence. IsDay recurrence.start) (take l.recurrence-index l.recurrences)
