use Rattle.std.proofs.Common.{rules, ◌≡◌, [], IfOk, ap, subst, ◌∙◌}
use Rattle.std.proofs.lemmas.Result.{IfOk-weaker}
use Rattle.book_undo.specs.Edit.{edited, together}
use Rattle.book_undo.specs.declared.edit.Edit.{Edit, Gone}
use Rattle.book_undo.specs.declared.thing.ThingKind.TheVariants as kind
use Rattle.book_sound.specs.Dismissal.{dismissing}
use Rattle.book_step.specs.Soundness.{IsSound}
use Rattle.book_step.specs.State.{State}
use Rattle.book_step.proofs.ExactLemmas.{leads_without}
use Rattle.book_step.proofs.dismissing.deleting.Goals as goal

pub returns-clause-leads : goal.returns-clause-leads
returns-clause-leads c =
    let state = c.args.present.now in
    let sound = subst (λ (s : State). IsSound s) c.present.view_is c.present.invariant in
    let is : IfOk c.together.result (λ edit. edit ≡ together (Gone kind.Txn c.args.number)
    (dismissing c.args.old.now.splits [] c.args.present.now.book.lines)) = search rules in
    IfOk-weaker c.together.result _ _
    (λ edit made.
    ap (λ (e : Edit). edited e state.book) made ∙ leads_without state c.args.number c.args.old.now sound) is
