use Rattle.std.proofs.Common.{[], ◌∷◌, Option, refl, ap, subst, sym, ◌∙◌}
use Rattle.book_splits.specs.declared.transaction.Txn.{Txn}
use Rattle.book_undo.specs.Book.{Book}
use Rattle.book_undo.specs.Edit.{is_nothing}
use Rattle.book_undo.specs.Exact.{IsExact}
use Rattle.book_undo.specs.declared.edit.Edit.{Edit, Gone}
use Rattle.book_undo.specs.declared.thing.ThingKind.TheVariants as kind
use Rattle.book_sound.specs.Dismissal.{dismissing}
use Rattle.book_sound.proofs.DismissalExact.{something_together}
use Rattle.book_step.specs.Editing.{book_without, drop_at, reconciled}
use Rattle.book_step.specs.Outcome.{StepsTo, changing}
use Rattle.book_step.specs.VoidRules.{voided_transaction}
use Rattle.book_command.specs.declared.answer.Answer.TheVariants as answer
use Rattle.book_step.proofs.ExactLemmas.{transaction_gone}
use Rattle.book_step.proofs.OutcomeLemmas.{past-changing}
use Rattle.book_step.proofs.editing.drop.Goals as goal

pub returns : goal.returns
returns c =
    let state = c.args.present.now in
    let old = c.in_ok-old.old.now in
    let later = book_without state.book c.args.number old in
    subst (λ (found : Option Txn). StepsTo state (drop_at state c.args.number c.args.force found) c.changing.result)
    (sym c.in_ok-old.ensures.there)
    (past-changing state (voided_transaction c.args.number old ∷ reconciled c.args.force old.splits [] ∷ []) later 0 answer.Drop
    c.changing.result c.in_ok-check_changeable.ensures.rules
    (subst (λ (b : Book). StepsTo state (changing state [] b 0 answer.Drop) c.changing.result)
    c.in_ok-edit.ensures.leads (c.changing.ensures answer.Drop refl)))

pub changing-requires-clause-changes : goal.changing-requires-clause-changes
changing-requires-clause-changes c =
    ap is_nothing c.in_ok-edit.ensures.edit
    ∙ something_together (Gone kind.Txn c.args.number)
    (dismissing c.in_ok-old.old.now.splits [] c.args.present.now.book.lines) refl

pub changing-requires-clause-exact : goal.changing-requires-clause-exact
changing-requires-clause-exact c sound =
    let state = c.args.present.now in
    subst (λ (e : Edit). IsExact state.book e) (sym c.in_ok-edit.ensures.edit)
    (transaction_gone state c.args.number c.in_ok-old.old.now sound c.in_ok-old.ensures.there)
