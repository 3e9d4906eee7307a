use Rattle.std.proofs.Common.{rules, ◌≡◌, ℕ, ℤ, List, FitsSigned, w64, to_z, of_z, [], ◌∷◌, Err, refl, ap, sym, subst}
use Rattle.std.proofs.Common.{◌∙◌}
use Rattle.std.proofs.lemmas.Int.{to_z-of_z}
use Rattle.book_undo.specs.Exact.{IsExact}
use Rattle.book_undo.specs.Edit.{is_nothing}
use Rattle.book_undo.specs.declared.edit.Edit.{Edit}
use Rattle.book_command.specs.declared.answer.Answer.TheVariants as answer
use Rattle.book_step.specs.Accounts.{unknown_account}
use Rattle.book_step.specs.Outcome.{StepsTo}
use Rattle.book_step.specs.Reconciling.{IsFinish, finished, reconcile}
use Rattle.book_step.specs.Soundness.{IsSound}
use Rattle.book_step.specs.State.{State}
use Rattle.book_step.proofs.ExactReconciling.{finish-changed, finish-refused, reconciling_exact, reconciling_something}
use Rattle.book_step.proofs.reconciling.reconcile.Goals as goal

pub returns-in-Err : goal.returns-in-Err
returns-in-Err c =
    let state = c.args.present.now in
    let said = to_z w64 (of_z w64 c.args.closing) in
    let fits : FitsSigned w64 c.args.closing = search rules in
    let same : to_z w64 (of_z w64 c.args.closing) ≡ c.args.closing = to_z-of_z w64 c.args.closing fits in
    subst (λ (closing : ℤ). StepsTo state (reconcile state c.args.account c.args.day closing)
    (Err c.in-Err.refusal)) same
    (finish-refused {T = Edit × List ℕ} state (unknown_account state.book.accounts c.args.account ∷ [])
    (λ number marked. answer.Reconcile number marked) c.args.account c.args.day said c.in-Err.refusal
    (IsFinish state.book state.next c.args.account c.args.day said) c.in_ok-known.ensures.unknown c.in-Err.ensures)

pub changing-requires-clause-changes : goal.changing-requires-clause-changes
changing-requires-clause-changes c =
    let state = c.args.present.now in
    let said = to_z w64 (of_z w64 c.args.closing) in
    ap is_nothing c.in-Ok.ensures.1.0
    ∙ reconciling_something state.book state.next (finished state.book c.args.account c.args.day said)

pub changing-requires-clause-exact : goal.changing-requires-clause-exact
changing-requires-clause-exact c sound =
    let state = c.args.present.now in
    let said = to_z w64 (of_z w64 c.args.closing) in
    subst (λ (e : Edit). IsExact state.book e) (sym c.in-Ok.ensures.1.0)
    (reconciling_exact state (finished state.book c.args.account c.args.day said) sound)

pub returns : goal.returns
returns c =
    let state = c.args.present.now in
    let said = to_z w64 (of_z w64 c.args.closing) in
    let fits : FitsSigned w64 c.args.closing = search rules in
    let same : to_z w64 (of_z w64 c.args.closing) ≡ c.args.closing = to_z-of_z w64 c.args.closing fits in
    let sound = subst (λ (s : State). IsSound s) c.present.view_is c.present.invariant in
    let number = ap (λ (s : State). s.next) c.present.view_is in
    subst (λ (closing : ℤ). StepsTo state (reconcile state c.args.account c.args.day closing) c.changing.result) same
    (finish-changed state (unknown_account state.book.accounts c.args.account ∷ [])
    (λ number marked. answer.Reconcile number marked) c.args.account c.args.day said c.in-Ok.finished.0
    c.present.inside.next c.in-Ok.finished.1 c.changing.result sound c.in_ok-known.ensures.unknown c.in-Ok.ensures.0
    c.in-Ok.ensures.1.0 number c.in-Ok.ensures.1.1
    (c.changing.ensures (answer.Reconcile c.present.inside.next c.in-Ok.finished.1) refl))
