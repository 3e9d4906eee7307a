use Rattle.std.specs.Prelude.{IsTrue}
use Rattle.std.proofs.Common.{Some, None, subst}
use Rattle.book_schedule.specs.DueDays.{IsOnSome}
use Rattle.book_schedule.specs.NextDay.{IsNext}
use Rattle.book_schedule.proofs.NextLemmas.{planned_none, planned_some, planned_past}
use Rattle.book_schedule.proofs.next_day.next_planned.Goals as goal

pub returns-in_err-next : goal.returns-in_err-next
returns-in_err-next c =
    rw c.from_residual.ensures
    (planned_none c.args.timing.now c.args.upto c.args.after.now
    (subst (λ recurrences. IsNext (IsOnSome recurrences) c.args.after.now None) c.as_slice.ensures
    c.in_err-next.ensures))

pub returns-then-is_within : goal.returns-then-is_within
returns-then-is_within c =
    planned_some c.args.timing.now c.args.upto c.args.after.now _
    (subst (λ recurrences. IsNext (IsOnSome recurrences) c.args.after.now (Some c.in_ok-next.next)) c.as_slice.ensures
    c.in_ok-next.ensures) (c.is_within.ensures.0 c.if-is_within.true)

pub returns-else-is_within : goal.returns-else-is_within
returns-else-is_within c =
    planned_past c.args.timing.now c.args.upto c.args.after.now _
    (subst (λ recurrences. IsNext (IsOnSome recurrences) c.args.after.now (Some c.in_ok-next.next)) c.as_slice.ensures
    c.in_ok-next.ensures)
    (λ within. (let is : IsTrue c.is_within.result = c.is_within.ensures.1 within in absurd cc))
