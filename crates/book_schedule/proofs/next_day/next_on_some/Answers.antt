use Rattle.std.proofs.Common.{◌+◌, ◌≡◌, take, sym, subst}
use Rattle.std.proofs.lemmas.List.{take_all}
use Rattle.book_schedule.specs.DueDays.{IsOnSome}
use Rattle.book_schedule.specs.NextDay.{IsNext}
use Rattle.book_schedule.proofs.NextLemmas.{next_more, next_none}
use Rattle.book_schedule.proofs.next_day.next_on_some.Goals as goal

pub loop-recurrence-init : goal.loop-recurrence-init
loop-recurrence-init c = next_none c.args.recurrences.now c.args.after.now

pub loop-recurrence-preserved : goal.loop-recurrence-preserved
loop-recurrence-preserved c =
    let i = c.loop-recurrence.recurrence-index in
    subst (λ next. IsNext (IsOnSome (take (i + 1) c.args.recurrences.now)) c.args.after.now next)
    (sym c.earlier-next.ensures)
    (next_more c.args.recurrences.now i _ c.args.after.now _ _ c.loop-recurrence-test.true c.recurrence-item.is
    c.loop-recurrence.invariant c.next_occurrence.ensures)

pub returns : goal.returns
returns c =
    let all : take c.loop-recurrence.recurrence-index c.args.recurrences.now ≡ c.args.recurrences.now =
    take_all c.loop-recurrence.recurrence-index c.args.recurrences.now c.loop-recurrence-test.false in
    subst (λ recurrences. IsNext (IsOnSome recurrences) c.args.after.now c.loop-recurrence.next) all
    c.loop-recurrence.invariant
