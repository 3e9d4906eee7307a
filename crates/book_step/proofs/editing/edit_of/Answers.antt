use Rattle.std.proofs.Common.{ℕ, [], List, Ok, map, refl, ap, sym, subst, ◌∙◌}
use Rattle.book_splits.specs.declared.split.Split.{Split}
use Rattle.book_undo.specs.Edit.{is_nothing}
use Rattle.book_undo.specs.Book.{Book}
use Rattle.book_undo.specs.Exact.{IsExact}
use Rattle.book_undo.specs.declared.edit.Edit.{Edit, Put}
use Rattle.book_undo.specs.declared.thing.Thing.TheVariants as thing
use Rattle.book_sound.specs.Dismissal.{dismissing}
use Rattle.book_sound.proofs.DismissalExact.{something_together}
use Rattle.book_step.specs.Editing.{book_with, edit_answer, edit_of, edited_transaction}
use Rattle.book_step.specs.Outcome.{StepsTo, changing}
use Rattle.book_step.specs.State.{State}
use Rattle.book_command.specs.declared.answer.Answer.TheVariants as answer
use Rattle.book_step.proofs.EditingLemmas.{edit_to, edit-broken, edit-changed, edit-left, edit-made, edit-misgiven}
use Rattle.book_step.proofs.ExactLemmas.{other_transaction}
use Rattle.book_step.proofs.OutcomeLemmas.{refused}
use Rattle.book_step.proofs.editing.edit_of.Goals as goal

pub returns-in_err-check_given : goal.returns-in_err-check_given
returns-in_err-check_given c =
    let state = c.args.present.now in
    let old = c.args.old.now in
    let rule = c.in_err-check_given.field-0.0 in
    refused state (edit_of state c.args.number c.args.force c.args.day c.args.given old) rule c.from_residual.result
    c.from_residual.ensures.1
    (edit-misgiven state c.args.number c.args.force c.args.day c.args.given old rule c.in_err-check_given.ensures)

pub returns-in_err-check_edit : goal.returns-in_err-check_edit
returns-in_err-check_edit c =
    let state = c.args.present.now in
    let old = c.args.old.now in
    let new = c.in_ok-new.new in
    let rule = c.in_err-check_edit.field-0.0 in
    let result = c.from_residual-in_err-check_edit.result in
    let made = c.in_ok-new.ensures.made
    ∙ ap (λ (n : ℕ). edited_transaction old n c.args.day c.args.given)
    (ap (λ (s : State). s.next) c.present.view_is) in
    edit-made state c.args.number c.args.force c.args.day c.args.given old new c.in_ok-new.drawn result made
    c.in_ok-new.ensures.drawn
    (refused state (edit_to state c.args.number c.args.force c.args.given old new c.in_ok-new.drawn) rule result
    c.from_residual-in_err-check_edit.ensures.1
    (edit-broken state c.args.number c.args.force c.args.given old new c.in_ok-new.drawn rule
    c.in_ok-check_given.ensures c.in_err-check_edit.ensures.rules))

pub returns-then-is_same : goal.returns-then-is_same
returns-then-is_same c =
    let state = c.args.present.now in
    let old = c.args.old.now in
    let new = c.in_ok-new.new in
    let made = c.in_ok-new.ensures.made
    ∙ ap (λ (n : ℕ). edited_transaction old n c.args.day c.args.given)
    (ap (λ (s : State). s.next) c.present.view_is) in
    let short = c.in_ok-answer.ensures
    ∙ ap (λ (splits : List Split). answer.Edit c.args.number (map (λ split. split.id) splits) []) c.as_slice.ensures in
    edit-made state c.args.number c.args.force c.args.day c.args.given old new c.in_ok-new.drawn
    (Ok c.leaving.result) made c.in_ok-new.ensures.drawn
    (edit-left state c.args.number c.args.force c.args.given old new c.in_ok-new.drawn (Ok c.leaving.result)
    c.in_ok-check_given.ensures c.in_ok-check_edit.ensures.rules (sym c.is_same.ensures ∙ c.if-is_same.true)
    (c.leaving.ensures (edit_answer state.book c.args.number new) (sym short)))

pub returns : goal.returns
returns c =
    let state = c.args.present.now in
    let old = c.args.old.now in
    let new = c.in_ok-new.new in
    let made = c.in_ok-new.ensures.made
    ∙ ap (λ (n : ℕ). edited_transaction old n c.args.day c.args.given)
    (ap (λ (s : State). s.next) c.present.view_is) in
    let short = c.in_ok-answer.ensures
    ∙ ap (λ (splits : List Split). answer.Edit c.args.number (map (λ split. split.id) splits) []) c.as_slice.ensures in
    let later = book_with state.book c.args.number old new in
    let whole = edit_answer later c.args.number new in
    let changed = subst (λ (b : Book). StepsTo state (changing state [] b c.in_ok-new.drawn whole) c.changing.result)
    c.in_ok-edit.ensures.leads (c.changing.ensures whole (sym short)) in
    edit-made state c.args.number c.args.force c.args.day c.args.given old new c.in_ok-new.drawn
    c.changing.result made c.in_ok-new.ensures.drawn
    (edit-changed state c.args.number c.args.force c.args.given old new c.in_ok-new.drawn c.changing.result
    c.in_ok-check_given.ensures c.in_ok-check_edit.ensures.rules (sym c.is_same.ensures ∙ c.if-is_same.false)
    changed)

pub changing-requires-clause-changes : goal.changing-requires-clause-changes
changing-requires-clause-changes c =
    ap is_nothing c.in_ok-edit.ensures.edit
    ∙ something_together (Put c.args.number (thing.Txn c.in_ok-new.new))
    (dismissing c.args.old.now.splits c.in_ok-new.new.splits c.args.present.now.book.lines) refl

pub changing-requires-clause-exact : goal.changing-requires-clause-exact
changing-requires-clause-exact c sound =
    let state = c.args.present.now in
    subst (λ (e : Edit). IsExact state.book e) (sym c.in_ok-edit.ensures.edit)
    (other_transaction state c.args.number c.args.old.now c.in_ok-new.new sound c.requires
    (sym c.is_same.ensures ∙ c.if-is_same.false))
