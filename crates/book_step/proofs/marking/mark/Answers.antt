use Rattle.std.proofs.Common.{◌≡◌, Ok, Some, refl, ap, sym, subst, ◌∙◌}
use Rattle.book_splits.specs.declared.split.Mark.{Mark}
use Rattle.book_splits.specs.declared.transaction.Txn.{Txn}
use Rattle.book_undo.specs.Exact.{IsExact}
use Rattle.book_undo.specs.declared.edit.Edit.{Put}
use Rattle.book_undo.specs.declared.thing.Thing.TheVariants as thing
use Rattle.book_sound.specs.LineRules.{split_at}
use Rattle.book_command.specs.declared.answer.Answer.TheVariants as answer
use Rattle.book_step.specs.Marking.{Held, IsHeld, mark as marking, remarked}
use Rattle.book_step.specs.SameTransaction.{is_mark}
use Rattle.book_step.specs.Soundness.{IsSound}
use Rattle.book_step.specs.State.{State}
use Rattle.book_step.specs.VoidRules.{voided_transaction_of}
use Rattle.book_step.proofs.ExactMarks.{mark_exact}
use Rattle.book_step.proofs.MarkingLemmas.{mark-broken, mark-changed, mark-left, mark-voided}
use Rattle.book_step.proofs.OutcomeLemmas.{refused}
use Rattle.book_step.proofs.VoidRuleLemmas.{one_broken, one_kept}
use Rattle.book_step.proofs.marking.mark.Goals as goal

pub returns-in_err-check_holder_not_voided : goal.returns-in_err-check_holder_not_voided
returns-in_err-check_holder_not_voided c =
    let state = c.args.present.now in
    let held = c.in_ok-held.held in
    let rule = c.in_err-check_holder_not_voided.field-0.0 in
    refused state (marking state c.args.number c.args.cleared c.args.force) rule
    c.from_residual-in_err-check_holder_not_voided.result c.from_residual-in_err-check_holder_not_voided.ensures.1
    (mark-voided state c.args.number c.args.cleared c.args.force held.split rule c.in_ok-held.ensures.split
    (one_broken (voided_transaction_of state.book.transactions c.args.number) rule c.in_err-check_holder_not_voided.ensures))

pub returns-in_err-check_unreconciled : goal.returns-in_err-check_unreconciled
returns-in_err-check_unreconciled c =
    let state = c.args.present.now in
    let unvoided = one_kept (voided_transaction_of state.book.transactions c.args.number) c.in_ok-check_holder_not_voided.ensures in
    let split = c.held.inside.split.now in
    let there = subst (λ (h : Held). split_at c.args.number state.book.transactions ≡ Some h.split) (sym c.held.view_is)
    c.in_ok-held.ensures.split in
    let rule = c.in_err-check_unreconciled.field-0.0 in
    refused state (marking state c.args.number c.args.cleared c.args.force) rule
    c.from_residual-in_err-check_unreconciled.result c.from_residual-in_err-check_unreconciled.ensures.1
    (mark-broken state c.args.number c.args.cleared c.args.force split rule there unvoided c.in_err-check_unreconciled.ensures)

pub returns-then-is_mark : goal.returns-then-is_mark
returns-then-is_mark c =
    let state = c.args.present.now in
    let unvoided = one_kept (voided_transaction_of state.book.transactions c.args.number) c.in_ok-check_holder_not_voided.ensures in
    let split = c.held.inside.split.now in
    let there = subst (λ (h : Held). split_at c.args.number state.book.transactions ≡ Some h.split) (sym c.held.view_is)
    c.in_ok-held.ensures.split in
    let same = ap (is_mark split.mark) (sym c.mark_asked-mark.ensures) ∙ sym c.is_mark.ensures ∙ c.if-is_mark.true in
    mark-left state c.args.number c.args.cleared c.args.force split (Ok c.leaving.result) there unvoided
    c.in_ok-check_unreconciled.ensures same (c.leaving.ensures answer.Mark refl)

pub changing-requires-clause-exact : goal.changing-requires-clause-exact
changing-requires-clause-exact c sound =
    let state = c.args.present.now in
    let held : Held = record {
      number = c.held.inside.number;
      transaction = c.held.inside.transaction.now;
      split = c.held.inside.split.now;
    } in
    let has = subst (λ (h : Held). IsHeld state.book.transactions c.args.number h) (sym c.held.view_is)
    c.in_ok-held.ensures.there in
    let differs = sym c.is_mark.ensures ∙ c.if-is_mark.false in
    subst (λ (t : Txn). IsExact state.book (Put held.number (thing.Txn t))) (sym c.in_ok-transaction.ensures)
    (mark_exact state c.args.number c.mark_asked-mark.result held sound has differs)

pub returns : goal.returns
returns c =
    let state = c.args.present.now in
    let number = c.args.number in
    let held : Held = record {
      number = c.held.inside.number;
      transaction = c.held.inside.transaction.now;
      split = c.held.inside.split.now;
    } in
    let sound = subst (λ (s : State). IsSound s) c.present.view_is c.present.invariant in
    let has = subst (λ (h : Held). IsHeld state.book.transactions number h) (sym c.held.view_is)
    c.in_ok-held.ensures.there in
    let there = subst (λ (h : Held). split_at number state.book.transactions ≡ Some h.split) (sym c.held.view_is)
    c.in_ok-held.ensures.split in
    let differs = ap (is_mark held.split.mark) (sym c.mark_asked-mark.ensures) ∙ sym c.is_mark.ensures
    ∙ c.if-is_mark.false in
    let made = c.in_ok-transaction.ensures
    ∙ ap (λ (m : Mark). remarked number m held.transaction) c.mark_asked-mark.ensures in
    mark-changed state number c.args.cleared c.args.force held c.in_ok-transaction.transaction c.changing.result sound
    has there (one_kept (voided_transaction_of state.book.transactions number) c.in_ok-check_holder_not_voided.ensures)
    c.in_ok-check_unreconciled.ensures differs made (c.changing.ensures answer.Mark refl)
