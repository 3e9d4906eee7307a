use Rattle.std.proofs.Common.{◌≡◌, ◌∷◌, [], None, is_none, refl, subst}
use Rattle.book_commodity.specs.Rules.{first_broken}
use Rattle.book_commodity.specs.Table.{value_of}
use Rattle.book_undo.specs.Book.{without_thing}
use Rattle.book_undo.specs.declared.thing.ThingKind.TheVariants as kind
use Rattle.book_command.specs.declared.answer.Answer.TheVariants as answer
use Rattle.book_step.specs.Schedules.{unknown_schedule}
use Rattle.book_step.specs.State.{State}
use Rattle.book_step.proofs.ExactRuns.{schedule_gone}
use Rattle.book_step.proofs.OutcomeLemmas.{only_kept, past-changing}
use Rattle.book_step.proofs.schedules.schedule_drop.Goals as goal

pub changing-requires-clause-exact : goal.changing-requires-clause-exact
changing-requires-clause-exact c sound =
    let state = c.args.present.now in
    let reported = subst (λ (s : State). first_broken (unknown_schedule s.book.schedules c.args.number ∷ []) ≡ None)
    c.present.view_is c.in_ok-check_there.ensures in
    schedule_gone state c.args.number sound
    (only_kept (is_none (value_of c.args.number state.book.schedules)) _ reported)

pub returns : goal.returns
returns c =
    let state = c.args.present.now in
    let reported = subst (λ (s : State). first_broken (unknown_schedule s.book.schedules c.args.number ∷ []) ≡ None)
    c.present.view_is c.in_ok-check_there.ensures in
    past-changing state (unknown_schedule state.book.schedules c.args.number ∷ [])
    (without_thing kind.Schedule c.args.number state.book) 0 answer.ScheduleDrop c.changing.result reported
    (c.changing.ensures answer.ScheduleDrop refl)
