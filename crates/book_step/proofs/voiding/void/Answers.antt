use Rattle.std.proofs.Common.{[], ◌∷◌, Option, refl, ap, subst, sym, ◌∙◌}
use Rattle.book_splits.specs.declared.transaction.Txn.{Txn}
use Rattle.book_undo.specs.Book.{Book}
use Rattle.book_undo.specs.Edit.{is_nothing, together}
use Rattle.book_undo.specs.Exact.{IsExact}
use Rattle.book_undo.specs.declared.edit.Edit.{Edit, Put}
use Rattle.book_undo.specs.declared.thing.Thing.TheVariants as thing
use Rattle.book_void.specs.Voiding.{voided_for}
use Rattle.book_sound.specs.Dismissal.{dismissing}
use Rattle.book_sound.proofs.DismissalExact.{something_together}
use Rattle.book_command.specs.declared.answer.Answer.TheVariants as answer
use Rattle.book_step.specs.Editing.{book_with, reconciled}
use Rattle.book_step.specs.Outcome.{StepsTo, changing}
use Rattle.book_step.specs.VoidRules.{voided_transaction}
use Rattle.book_step.specs.Voiding.{void_at}
use Rattle.book_step.proofs.OutcomeLemmas.{past-changing}
use Rattle.book_step.proofs.VoidingLemmas.{void_exact}
use Rattle.book_step.proofs.voiding.void.Goals as goal

pub changing-requires-clause-changes : goal.changing-requires-clause-changes
changing-requires-clause-changes c =
    ap is_nothing c.in_ok-edit.ensures.edit
    ∙ something_together (Put c.args.number (thing.Txn c.in_ok-new.new))
    (dismissing c.in_ok-old.old.now.splits c.in_ok-new.new.splits c.args.present.now.book.lines) refl

pub changing-requires-clause-exact : goal.changing-requires-clause-exact
changing-requires-clause-exact c sound =
    let state = c.args.present.now in
    let n = c.args.number in
    let old = c.in_ok-old.old.now in
    let Exact : Txn → Type 0 = λ t. IsExact state.book
    (together (Put n (thing.Txn t)) (dismissing old.splits t.splits state.book.lines)) in
    subst (λ (e : Edit). IsExact state.book e) (sym c.in_ok-edit.ensures.edit)
    (subst Exact (sym c.in_ok-new.ensures)
    (void_exact state n c.args.reason old sound c.in_ok-old.ensures.there c.in_ok-check_changeable.ensures.unvoided))

pub returns : goal.returns
returns c =
    let state = c.args.present.now in
    let n = c.args.number in
    let force = c.args.force in
    let reason = c.args.reason in
    let old = c.in_ok-old.old.now in
    let new = voided_for reason old in
    let later = book_with state.book n old new in
    let leads = c.in_ok-edit.ensures.leads ∙ ap (λ (t : Txn). book_with state.book n old t) c.in_ok-new.ensures in
    subst (λ (found : Option Txn). StepsTo state (void_at state n reason force found) c.changing.result)
    (sym c.in_ok-old.ensures.there)
    (past-changing state (voided_transaction n old ∷ reconciled force old.splits [] ∷ []) later 0 answer.Void
    c.changing.result c.in_ok-check_changeable.ensures.rules
    (subst (λ (b : Book). StepsTo state (changing state [] b 0 answer.Void) c.changing.result) leads
    (c.changing.ensures answer.Void refl)))
