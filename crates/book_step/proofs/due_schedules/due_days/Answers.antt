use Rattle.std.proofs.Common.{All, List, rules, subst}
use Rattle.book_commodity.specs.Day.{IsDay}
use Rattle.book_schedule.specs.declared.recurrence.Recurrence.{Recurrence}
use Rattle.book_step.proofs.ScheduleLemmas.{days-found, days-many}
use Rattle.book_step.proofs.due_schedules.due_days.Goals as goal

pub returns-in-Ok : goal.returns-in-Ok
returns-in-Ok c =
    days-found c.args.timing.now c.args.upto c.in-Ok.days c.requires
    (subst (λ (rs : List Recurrence). All (λ (r : Recurrence). IsDay r.start) rs) c.as_slice.ensures
    c.start_in_range.ensures)
    c.in-Ok.ensures.days c.in-Ok.ensures.at_most

pub returns-in-Err-Limit : goal.returns-in-Err-Limit
returns-in-Err-Limit c =
    days-many c.args.timing.now c.args.upto c.requires
    (subst (λ (rs : List Recurrence). All (λ (r : Recurrence). IsDay r.start) rs) c.as_slice.ensures
    c.start_in_range.ensures)
    (c.due.ensures.limit (search rules))
