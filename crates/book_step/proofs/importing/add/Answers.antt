use Rattle.std.proofs.Common.{◌+◌, length, Ok, sym, ap, subst, ◌∙◌}
use Rattle.book_undo.specs.Edit.{edited, is_nothing}
use Rattle.book_undo.specs.Exact.{IsExact}
use Rattle.book_undo.specs.declared.edit.Edit.{Edit}
use Rattle.book_step.specs.Importing.{import_answer, import_of}
use Rattle.book_step.specs.Soundness.{IsSound}
use Rattle.book_step.specs.State.{State}
use Rattle.book_step.proofs.ExactImport.{import_exact, import_leads, import_something}
use Rattle.book_step.proofs.ImportWalkLemmas.{add-broken, add-changed, add-left}
use Rattle.book_step.proofs.OutcomeLemmas.{refused}
use Rattle.book_step.proofs.importing.add.Goals as goal

pub returns-in_err-check_room : goal.returns-in_err-check_room
returns-in_err-check_room c = λ rules unbroken.
    let state = c.args.present.now in
    let added = c.args.added in
    let rule = c.in_err-check_room.field-0.0 in
    refused state (import_of state rules added) rule c.from_residual.result c.from_residual.ensures.1
    (add-broken state rules added rule unbroken c.in_err-check_room.ensures)

pub returns-then-adds_nothing : goal.returns-then-adds_nothing
returns-then-adds_nothing c = λ rules unbroken.
    add-left c.args.present.now rules c.args.added (Ok c.leaving.result) unbroken c.in_ok-check_room.ensures
    (sym c.adds_nothing.ensures ∙ c.if-adds_nothing.true)
    (c.leaving.ensures (import_answer c.args.added) (sym c.in_ok-answer.ensures))

pub changing-requires-clause-changes : goal.changing-requires-clause-changes
changing-requires-clause-changes c =
    ap is_nothing c.in_ok-edit.ensures
    ∙ import_something c.args.added (sym c.adds_nothing.ensures ∙ c.if-adds_nothing.false)

pub changing-requires-clause-exact : goal.changing-requires-clause-exact
changing-requires-clause-exact c sound =
    let state = c.args.present.now in
    subst (λ (e : Edit). IsExact state.book e) (sym c.in_ok-edit.ensures)
    (import_exact state c.args.added sound c.requires)

pub returns : goal.returns
returns c = λ rules unbroken.
    let state = c.args.present.now in
    let added = c.args.added in
    let sound = subst (λ (s : State). IsSound s) c.present.view_is c.present.invariant in
    add-changed state rules added c.in_ok-edit.edit (c.len.result + c.len-2.result) c.changing.result unbroken
    c.in_ok-check_room.ensures (sym c.adds_nothing.ensures ∙ c.if-adds_nothing.false)
    (ap (λ (e : Edit). edited e state.book) c.in_ok-edit.ensures ∙ import_leads state added sound c.requires)
    (ap (λ n. n + c.len-2.result) c.len.ensures ∙ ap (λ n. length added.statements + n) c.len-2.ensures)
    (c.changing.ensures (import_answer added) (sym c.in_ok-answer.ensures))
