use Rattle.book_schedule.specs.NextDay.{ArePassed}
use Rattle.book_schedule.proofs.next_day.next_occurrence.Given as goal

abbrev pub invariant-loop-k : goal.invariant-loop-k
invariant-loop-k l = ArePassed l.recurrence l.after l.k
