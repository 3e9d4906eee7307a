use Rattle.std.proofs.Common.{◌≤◌, ◌-◌, length, vec_len}
use Rattle.book_schedule.specs.DueDays.{IsPlanned}
use Rattle.book_schedule.specs.NextDay.{Follow}
use Rattle.book_schedule.proofs.due_days.first_open.Given as goal

abbrev pub invariant-loop-upto : goal.invariant-loop-upto
invariant-loop-upto l = record {
  follow : Follow (IsPlanned l.timing l.upto) l.timing.last l.days.items l.last;
  count : length l.days.items ≤ l.most;
}

abbrev pub decreases-loop-upto : goal.decreases-loop-upto
decreases-loop-upto l = l.most - vec_len l.days
