-- The step of a change with its whole answer.
use Rattle.std.specs.Prelude.{◌≡◌, ⊤}
use Rattle.book_command.specs.declared.refusal.Refusal.{Refusal}
use Rattle.book_command.specs.declared.refusal.Refusal.TheVariants as refusal
use Rattle.book_command.specs.declared.command.Update.{Update}
use Rattle.book_step.specs.AnswerBalances.{with_balances}
use Rattle.book_step.specs.Outcome.{Outcome, Broken as StepBroken, Done as Stepped, after as after_step}
use Rattle.book_step.specs.State.{State as StepState}
use Rattle.book_step.specs.Step.{outcome}
use Rattle.book_step.specs.declared.step.Step.{Step}
use Rattle.book_undo.specs.Book.{Book}
use Rattle.book_undo.specs.Edit.{edited}
use Rattle.book_undo.specs.Exact.{IsExact}

-- The step with the balances in its answer, which are those of the book that it leads to.
abbrev pub whole_step : Book → Step → Step
whole_step book step = record step { answer = with_balances (edited step.edit book) step.answer }

-- A step is that of a change from this state, with its whole answer, and its edit is exact for the book.
pub record IsWholeStep (state : StepState) (update : Update) (taken : Step) : Type 0 where
  pub done : outcome state update ≡ Stepped (after_step state taken) taken.answer
  pub exact : IsExact state.book taken.edit

-- A refusal of a change comes where its outcome is that broken rule, or out of memory. No keeper is asked.
abbrev pub IsStepRefusal : Outcome → Refusal → Type 0
IsStepRefusal outcome (refusal.Broken rule) = outcome ≡ StepBroken rule
IsStepRefusal outcome refusal.Keeper = ⊥
IsStepRefusal outcome refusal.OutOfMemory = ⊤
