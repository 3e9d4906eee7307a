use Rattle.std.proofs.Common.{subst, ap, ◌∙◌}
use Rattle.std.proofs.lemmas.List.{take_all}
use Rattle.book_step.specs.Reconciling.{marked_under}
use Rattle.book_step.specs.Soundness.{IsSound}
use Rattle.book_step.specs.State.{State}
use Rattle.book_step.proofs.KeptReconciling.{at-numbers, edits-more, remarking_at}
use Rattle.book_step.proofs.reconciling.Marking.edits.Goals as goal

pub loop-number-preserved : goal.loop-number-preserved
loop-number-preserved c =
    let marking = c.args.self.now in
    edits-more (marked_under marking.number marking.account marking.upto) c.args.present.now.book.transactions
    c.args.numbers.now c.loop-number.number-index _ c.loop-number.edits c.add_edit.new.edits c.loop-number-test.true
    c.transaction_of-found.ensures c.loop-number.invariant c.in_ok-add_edit.ensures

pub returns : goal.returns
returns c =
    let marking = c.args.self.now in
    let all = c.args.present.now.book.transactions in
    let sound = subst (λ (s : State). IsSound s) c.present.view_is c.present.invariant in
    c.loop-number.invariant
    ∙ ap (remarking_at (marked_under marking.number marking.account marking.upto) all)
    (take_all c.loop-number.number-index c.args.numbers.now c.loop-number-test.false ∙ c.requires)
    ∙ at-numbers marking.number marking.account marking.upto all sound.book.transactions.rise
