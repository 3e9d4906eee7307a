use Rattle.std.proofs.Common.{ℕ, sym, ap, subst}
use Rattle.book_step.specs.Outcome.{Done, IsStepTo}
use Rattle.book_step.specs.Soundness.{IsSound}
use Rattle.book_step.specs.State.{State}
use Rattle.book_step.proofs.OutcomeLemmas.{step-leaving}
use Rattle.book_step.proofs.step.Step.leaving.Goals as goal

pub returns : goal.returns
returns c whole same =
    let state = c.args.present.now in
    let sound = subst (λ (s : State). IsSound s) c.present.view_is c.present.invariant in
    subst (λ (n : ℕ). IsStepTo state (Done state whole)
    (record { edit = c.nothing.result; next = n; answer = c.args.answer }))
    (sym (ap (λ (s : State). s.next) c.present.view_is))
    (step-leaving state c.nothing.result whole c.args.answer c.nothing.ensures same sound.book)
