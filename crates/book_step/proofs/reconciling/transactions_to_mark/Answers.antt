use Rattle.std.proofs.Common.{subst}
use Rattle.std.proofs.lemmas.Result.{IfOk-weaker}
use Rattle.book_step.specs.Soundness.{IsSound}
use Rattle.book_step.specs.State.{State}
use Rattle.book_step.proofs.reconciling.transactions_to_mark.Goals as goal

pub returns : goal.returns
returns c =
    let sound = subst (λ (s : State). IsSound s) c.present.view_is c.present.invariant in
    IfOk-weaker c.marked_transactions.result _ _
    (λ numbers all. all c.args.account c.args.present.now.book.transactions sound.book.transactions.rise c.requires)
    c.marked_transactions.ensures
