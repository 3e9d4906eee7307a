use Rattle.std.proofs.Common.{refl, subst, sym}
use Rattle.book_step.specs.Outcome.{after as state_after_step}
use Rattle.book_step.specs.State.{state_of}
use Rattle.book_step.specs.declared.step.Step.{Step}
use Rattle.book_step.proofs.AnswerLemmas.{puts_answered, whole_outcome}
use Rattle.book_step.proofs.SoundStep.{outcome-sound}
use Rattle.book_balances.specs.Answered.{IsWholeStep}
use Rattle.book_balances.proofs.answered.answered_step.Goals as goal

pub with_balances-requires : goal.with_balances-requires
with_balances-requires c =
    let state = state_of c.args.plain.now c.args.next c.args.version in
    let after = state_after_step state c.in-Ok.step in
    record {
      kept = c.requires.registers;
      sound = c.requires.sound.book;
      after = (outcome-sound state c.args.update after _ c.requires.sound
          (whole_outcome state c.args.update after c.in-Ok.step.answer c.in-Ok.ensures.steps.leads)).book;
      allowed = c.in-Ok.ensures.steps.exact.allowed;
      puts = puts_answered state c.args.update (state_after_step state c.in-Ok.step) c.in-Ok.step.edit
          c.in-Ok.step.answer c.requires.sound refl c.in-Ok.ensures.steps.leads;
    }

pub returns-in-Ok-with_balances-clause-done : goal.returns-in-Ok-with_balances-clause-done
returns-in-Ok-with_balances-clause-done c =
    let state = state_of c.args.plain.now c.args.next c.args.version in
    let taken = c.in-Ok.step in
    subst (λ (s : Step). IsWholeStep state c.args.update s) (sym c.in-Ok-with_balances.ensures) (record {
      done = whole_outcome state c.args.update (state_after_step state taken) taken.answer c.in-Ok.ensures.steps.leads;
      exact = c.in-Ok.ensures.steps.exact;
    })
