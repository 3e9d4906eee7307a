use Rattle.std.proofs.Common.{rules, ◌≡◌, ℤ, List, FitsSigned, w64, to_z, of_z, subst, sym}
use Rattle.std.proofs.lemmas.Int.{to_z-of_z}
use Rattle.book_reconcile.specs.Reconciliation.{FinishesBy}
use Rattle.book_register.specs.declared.entry.Entry.{Entry}
use Rattle.book_finish.specs.Kept.{AreWithinLimits}
use Rattle.book_step.specs.Soundness.{IsSound}
use Rattle.book_step.specs.State.{State}
use Rattle.book_step.proofs.KeptReconciling.{register-limits}
use Rattle.book_step.proofs.reconciling.plan_finish.Goals as goal

pub plan_finish_kept-requires : goal.plan_finish_kept-requires
plan_finish_kept-requires c =
    let sound = subst (λ (s : State). IsSound s) c.present.view_is c.present.invariant in
    subst (λ (rows : List Entry). AreWithinLimits rows) (sym c.requires)
    (register-limits c.args.present.now c.args.account sound)

pub returns : goal.returns
returns c =
    let ts = c.args.present.now.book.transactions in
    let sound = subst (λ (s : State). IsSound s) c.present.view_is c.present.invariant in
    let fits : FitsSigned w64 c.args.closing = search rules in
    let same : to_z w64 (of_z w64 c.args.closing) ≡ c.args.closing = to_z-of_z w64 c.args.closing fits in
    subst (λ (closing : ℤ). FinishesBy c.args.account c.args.day closing ts c.plan_finish_kept.result) same
    (c.plan_finish_kept.ensures ts sound.book.transactions.rise c.requires)
