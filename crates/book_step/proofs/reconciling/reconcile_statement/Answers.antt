use Rattle.std.proofs.Common.{rules, ◌≡◌, ℕ, List, FitsSigned, w64, to_z, of_z, [], Err, refl, ap, sym, subst, ◌∙◌}
use Rattle.std.proofs.lemmas.Int.{to_z-of_z}
use Rattle.book_undo.specs.Exact.{IsExact}
use Rattle.book_undo.specs.Edit.{is_nothing}
use Rattle.book_undo.specs.declared.edit.Edit.{Edit}
use Rattle.book_command.specs.declared.answer.Answer.TheVariants as answer
use Rattle.book_step.specs.Reconciling.{IsFinish, finished}
use Rattle.book_step.specs.Soundness.{IsSound}
use Rattle.book_step.specs.State.{State}
use Rattle.book_step.proofs.ExactReconciling.{at-closed, finish-changed, finish-refused, reconciling_exact}
use Rattle.book_step.proofs.ExactReconciling.{reconciling_something}
use Rattle.book_step.proofs.reconciling.reconcile_statement.Goals as goal

pub returns-in-Err : goal.returns-in-Err
returns-in-Err c =
    let state = c.args.present.now in
    let held = c.in_ok-held.held.now in
    let closing = c.in_ok-closing.closing in
    let fits : FitsSigned w64 c.in_ok-closing.closing = search rules in
    let same : to_z w64 (of_z w64 c.in_ok-closing.closing) ≡ c.in_ok-closing.closing =
    to_z-of_z w64 c.in_ok-closing.closing fits in
    at-closed state c.args.statement held (to_z w64 (of_z w64 closing)) closing (Err c.in-Err.refusal)
    c.in_ok-held.ensures.there c.in_ok-closing.ensures.there same
    (finish-refused {T = Edit × List ℕ} state [] (λ number marked. answer.ReconcileStatement number marked) held.account
    held.day (to_z w64 (of_z w64 closing)) c.in-Err.refusal
    (IsFinish state.book state.next held.account held.day (to_z w64 (of_z w64 closing))) refl c.in-Err.ensures)

pub changing-requires-clause-changes : goal.changing-requires-clause-changes
changing-requires-clause-changes c =
    let state = c.args.present.now in
    let held = c.in_ok-held.held.now in
    let said = to_z w64 (of_z w64 c.in_ok-closing.closing) in
    ap is_nothing c.in-Ok.ensures.1.0
    ∙ reconciling_something state.book state.next (finished state.book held.account held.day said)

pub changing-requires-clause-exact : goal.changing-requires-clause-exact
changing-requires-clause-exact c sound =
    let state = c.args.present.now in
    let held = c.in_ok-held.held.now in
    let said = to_z w64 (of_z w64 c.in_ok-closing.closing) in
    subst (λ (e : Edit). IsExact state.book e) (sym c.in-Ok.ensures.1.0)
    (reconciling_exact state (finished state.book held.account held.day said) sound)

pub returns : goal.returns
returns c =
    let state = c.args.present.now in
    let held = c.in_ok-held.held.now in
    let closing = c.in_ok-closing.closing in
    let fits : FitsSigned w64 c.in_ok-closing.closing = search rules in
    let same : to_z w64 (of_z w64 c.in_ok-closing.closing) ≡ c.in_ok-closing.closing =
    to_z-of_z w64 c.in_ok-closing.closing fits in
    let sound = subst (λ (s : State). IsSound s) c.present.view_is c.present.invariant in
    let number = ap (λ (s : State). s.next) c.present.view_is in
    at-closed state c.args.statement held (to_z w64 (of_z w64 closing)) closing c.changing.result
    c.in_ok-held.ensures.there c.in_ok-closing.ensures.there same
    (finish-changed state [] (λ number marked. answer.ReconcileStatement number marked) held.account held.day
    (to_z w64 (of_z w64 closing)) c.in-Ok.finished.0 c.present.inside.next c.in-Ok.finished.1 c.changing.result sound
    refl c.in-Ok.ensures.0 c.in-Ok.ensures.1.0 number c.in-Ok.ensures.1.1
    (c.changing.ensures (answer.ReconcileStatement c.present.inside.next c.in-Ok.finished.1) refl))
