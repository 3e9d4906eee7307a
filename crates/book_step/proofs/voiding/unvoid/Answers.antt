use Rattle.std.proofs.Common.{[], ◌∷◌, Option, refl, ap, subst, sym}
use Rattle.book_commodity.proofs.RuleLemmas.{kept_of, not-broken}
use Rattle.book_splits.specs.declared.transaction.Txn.{Txn}
use Rattle.book_undo.specs.Book.{Book, with_thing}
use Rattle.book_undo.specs.Exact.{IsExact}
use Rattle.book_undo.specs.declared.edit.Edit.{Put}
use Rattle.book_undo.specs.declared.thing.Thing.TheVariants as thing
use Rattle.book_command.specs.declared.answer.Answer.TheVariants as answer
use Rattle.book_step.specs.Outcome.{StepsTo, changing}
use Rattle.book_step.specs.Soundness.{IsSound}
use Rattle.book_step.specs.State.{State}
use Rattle.book_step.specs.VoidRules.{not_voided}
use Rattle.book_step.specs.Voiding.{book_restored, unvoid_at}
use Rattle.book_step.proofs.OutcomeLemmas.{past-changing}
use Rattle.book_step.proofs.VoidingLemmas.{keeps-each, unvoid_exact}
use Rattle.book_step.proofs.voiding.unvoid.Goals as goal

pub restored-requires : goal.restored-requires
restored-requires c =
    let sound = subst (λ (s : State). IsSound s) c.present.view_is c.present.invariant in
    keeps-each c.args.present.now c.args.number c.in_ok-old.old.now sound c.in_ok-old.ensures.there

pub changing-requires-clause-exact : goal.changing-requires-clause-exact
changing-requires-clause-exact c sound =
    let state = c.args.present.now in
    let n = c.args.number in
    let old = c.in_ok-old.old.now in
    let voided = not-broken _ _ (kept_of (not_voided n old ∷ []) c.in_ok-check_voided.ensures).0 in
    subst (λ (t : Txn). IsExact state.book (Put n (thing.Txn t))) (sym c.in_ok-new.ensures)
    (unvoid_exact state n old sound c.in_ok-old.ensures.there voided)

pub returns : goal.returns
returns c =
    let state = c.args.present.now in
    let n = c.args.number in
    let old = c.in_ok-old.old.now in
    let later = book_restored state.book n old in
    let leads = ap (λ (t : Txn). with_thing n (thing.Txn t) state.book) c.in_ok-new.ensures in
    subst (λ (found : Option Txn). StepsTo state (unvoid_at state n found) c.changing.result)
    (sym c.in_ok-old.ensures.there)
    (past-changing state (not_voided n old ∷ []) later 0 answer.Unvoid c.changing.result c.in_ok-check_voided.ensures
    (subst (λ (b : Book). StepsTo state (changing state [] b 0 answer.Unvoid) c.changing.result) leads
    (c.changing.ensures answer.Unvoid refl)))
