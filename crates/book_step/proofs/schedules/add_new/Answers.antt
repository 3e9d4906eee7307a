use Rattle.std.proofs.Common.{refl, ap, subst, sym}
use Rattle.book_undo.specs.Book.{with_thing}
use Rattle.book_undo.specs.Exact.{IsExact}
use Rattle.book_undo.specs.declared.edit.Edit.{Put}
use Rattle.book_undo.specs.declared.thing.Thing.TheVariants as thing
use Rattle.book_command.specs.declared.answer.Answer.TheVariants as answer
use Rattle.book_step.specs.Schedules.{add_rules, schedule_put}
use Rattle.book_step.specs.State.{State}
use Rattle.book_step.proofs.ExactRuns.{new_schedule}
use Rattle.book_step.proofs.OutcomeLemmas.{broken-changing, past-drawing, refused}
use Rattle.book_step.proofs.schedules.add_new.Goals as goal

pub returns-in_err-check_new : goal.returns-in_err-check_new
returns-in_err-check_new c =
    let state = c.args.present.now in
    let rule = c.in_err-check_new.field-0.0 in
    refused state (schedule_put state c.args.schedule) rule c.from_residual.result c.from_residual.ensures.1
    (broken-changing state (add_rules state.book c.args.schedule)
    (with_thing state.next (thing.Schedule c.args.schedule) state.book) 1 (answer.ScheduleAdd state.next) rule
    c.in_err-check_new.ensures)

pub returns : goal.returns
returns c =
    let state = c.args.present.now in
    past-drawing state c.present.inside.next (add_rules state.book c.args.schedule)
    (λ n. with_thing n (thing.Schedule c.args.schedule) state.book) 1 (λ n. answer.ScheduleAdd n) c.changing.result
    (ap (λ (s : State). s.next) c.present.view_is) c.in_ok-check_new.ensures
    (c.changing.ensures (answer.ScheduleAdd c.present.inside.next) refl)

pub changing-requires-clause-exact : goal.changing-requires-clause-exact
changing-requires-clause-exact c sound =
    subst (λ n. IsExact c.args.present.now.book (Put n (thing.Schedule c.args.schedule)))
    (sym (ap (λ (s : State). s.next) c.present.view_is)) (new_schedule c.args.present.now c.args.schedule sound)
