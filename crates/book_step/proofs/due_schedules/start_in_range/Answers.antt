use Rattle.std.proofs.Common.{All, List, take, subst}
use Rattle.std.proofs.lemmas.List.{take_all}
use Rattle.std.proofs.lemmas.List.Elements.{All-nil, All-push}
use Rattle.book_commodity.specs.Day.{IsDay}
use Rattle.book_commodity.proofs.ListLemmas.{take-item}
use Rattle.book_schedule.specs.declared.recurrence.Recurrence.{Recurrence}
use Rattle.book_step.proofs.due_schedules.start_in_range.Goals as goal

pub loop-recurrence-init : goal.loop-recurrence-init
loop-recurrence-init c = All-nil (λ (r : Recurrence). IsDay r.start)

pub loop-recurrence-preserved : goal.loop-recurrence-preserved
loop-recurrence-preserved c =
    let rs = c.args.recurrences.now in
    let i = c.loop-recurrence.recurrence-index in
    subst (λ (done : List Recurrence). All (λ (r : Recurrence). IsDay r.start) done)
    (take-item rs i _ c.loop-recurrence-test.true c.recurrence-item.is)
    (All-push (λ (r : Recurrence). IsDay r.start) (take i rs) _ c.loop-recurrence.invariant c.in_range.ensures)

pub returns : goal.returns
returns c =
    subst (λ (done : List Recurrence). All (λ (r : Recurrence). IsDay r.start) done)
    (take_all c.loop-recurrence.recurrence-index c.args.recurrences.now c.loop-recurrence-test.false)
    c.loop-recurrence.invariant
