use Rattle.std.proofs.Common.{ℕ, refl, ap, subst, sym}
use Rattle.book_undo.specs.Book.{with_thing}
use Rattle.book_undo.specs.Exact.{IsExact}
use Rattle.book_undo.specs.declared.edit.Edit.{Put}
use Rattle.book_undo.specs.declared.thing.Thing.TheVariants as thing
use Rattle.book_command.specs.declared.answer.Answer.TheVariants as answer
use Rattle.book_step.specs.Bindings.{new_rules}
use Rattle.book_step.specs.Outcome.{changing}
use Rattle.book_step.specs.State.{State}
use Rattle.book_step.proofs.ExactBank as exact
use Rattle.book_step.proofs.OutcomeLemmas.{broken-changing, past-drawing, refused}
use Rattle.book_step.proofs.bindings.new_binding.Goals as goal

pub returns-in_err-check_new : goal.returns-in_err-check_new
returns-in_err-check_new c =
    let state = c.args.present.now in
    let rules = new_rules state.book c.args.binding.account in
    let later = with_thing state.next (thing.Binding c.args.binding) state.book in
    let rule = c.in_err-check_new.field-0.0 in
    refused state (changing state rules later 1 answer.Bind) rule c.from_residual.result c.from_residual.ensures.1
    (broken-changing state rules later 1 answer.Bind rule c.in_err-check_new.ensures)

pub returns : goal.returns
returns c =
    let state = c.args.present.now in
    past-drawing state c.present.inside.next (new_rules state.book c.args.binding.account)
    (λ n. with_thing n (thing.Binding c.args.binding) state.book) 1 (λ n. answer.Bind) c.changing.result
    (ap (λ (s : State). s.next) c.present.view_is) c.in_ok-check_new.ensures (c.changing.ensures answer.Bind refl)

pub changing-requires-clause-exact : goal.changing-requires-clause-exact
changing-requires-clause-exact c sound =
    subst (λ (n : ℕ). IsExact c.args.present.now.book (Put n (thing.Binding c.args.binding)))
    (sym (ap (λ (s : State). s.next) c.present.view_is)) (exact.new_binding c.args.present.now c.args.binding sound)
