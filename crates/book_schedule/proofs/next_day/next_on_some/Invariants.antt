use Rattle.std.proofs.Common.{take}
use Rattle.book_schedule.specs.DueDays.{IsOnSome}
use Rattle.book_schedule.specs.NextDay.{IsNext}
use Rattle.book_schedule.proofs.next_day.next_on_some.Given as goal

abbrev pub invariant-loop-recurrence : goal.invariant-loop-recurrence
invariant-loop-recurrence l = IsNext (IsOnSome (take l.recurrence-index l.recurrences)) l.after l.next
