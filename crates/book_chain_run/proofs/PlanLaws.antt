-- What a plan leaves of all books of the machine that an engine keeps.
use Rattle.std.proofs.Common.{◌≡◌, ℕ, Bool, false, All, List, [], ◌∷◌, reverse, Result, Ok, Err, IfOk, OnErr, OnOk}
use Rattle.std.proofs.Common.{subst, sym}
use Rattle.std.proofs.lemmas.List.Elements.{All-cons, All-nil}
use Rattle.book_undo.specs.Book.{Book}
use Rattle.book_undo.specs.Edit.{edited}
use Rattle.book_undo.specs.declared.edit.Edit.{Edit}
use Rattle.book_history.specs.Steps.{AreSound as AreSoundSteps, books_to}
use Rattle.book_keeper.specs.declared.row.KeepError.{KeepError}
use Rattle.book_command.specs.declared.answer.Answer.{Answer}
use Rattle.book_command.specs.declared.command.Command.{Command}
use Rattle.book_command.specs.declared.refusal.Refusal.{Refusal}
use Rattle.book_step.specs.Soundness.{IsSound}
use Rattle.book_opening.specs.State.{State}
use Rattle.book_turns.specs.Whole.{IsWhole, step_state}
use Rattle.book_chain.specs.Chain.{KeepsBroken}
use Rattle.book_engine.specs.Acting.{IsUnchanged}
use Rattle.book_engine.specs.Books.{machine_kept, machine_of}
use Rattle.book_engine.specs.Kept.{Kept}
use Rattle.book_engine.specs.Planned.{IsPlanFor, IsPlanOf, Planned, after}
use Rattle.book_chain_run.specs.Books.{AreChained, AreSound, IsSoundBelow, AllKeepBroken, is_undo_or_redo}
use Rattle.book_chain_run.proofs.StepLaws.{step-chained, step-keeps-broken, step-stays-broken}

-- ---- one plan

-- A plan of a command leads from a machine whose books are all chained to such a machine.
pub plan-chained :
    (state : State) (saved : Bool) (command : Command) (plan : Planned) → IsSound (step_state state)
    → AreChained (machine_of state) → IsPlanOf state saved command plan → AreChained (machine_of (after state plan))
plan-chained state saved command plan is all of =
    step-chained (machine_of state) command (machine_of (after state plan)) plan.answer is all of.made

-- From each book to the one after it what isn't intact still stays so.
pub plan-keeps-broken :
    (state : State) (saved : Bool) (command : Command) (plan : Planned) → IsSound (step_state state)
    → AllKeepBroken (machine_of state) → IsPlanOf state saved command plan
    → AllKeepBroken (machine_of (after state plan))
plan-keeps-broken state saved command plan is all of =
    step-keeps-broken (machine_of state) command (machine_of (after state plan)) plan.answer is all of.made

-- What isn't intact isn't intact after a plan of a command that is no undo and no redo.
pub plan-stays-broken :
    (state : State) (saved : Bool) (command : Command) (plan : Planned) → IsSound (step_state state)
    → is_undo_or_redo command.what ≡ false → IsPlanOf state saved command plan
    → KeepsBroken state.book (after state plan).book
plan-stays-broken state saved command plan is forward of =
    step-stays-broken (machine_of state) command (machine_of (after state plan)) plan.answer is forward of.made

-- ---- as the engine's calls say it

-- What `prepare` gives is a plan after which the books are all chained, where they were before.
pub prepared-chained :
    (before : Kept) (command : Command) (result : Result Planned Refusal) → IsSound (step_state before.state)
    → AreChained (machine_kept before) → IfOk result (IsPlanOf before.state before.saved command)
    → IfOk result (λ plan. AreChained (machine_of (after before.state plan)))
prepared-chained before command (Ok plan) is all of = plan-chained before.state before.saved command plan is all of
prepared-chained before command (Err refusal) is all of = tt

-- After `finish` the books that the engine keeps are all chained, where they were before: it leads to the machine after
-- the plan, or leaves what the engine kept.
pub finished-chained :
    (before now : Kept) (plan : Planned) (result : Result Answer KeepError) → IsSound (step_state before.state)
    → AreChained (machine_kept before) → IsPlanFor before.state before.saved plan
    → OnOk result (now.state ≡ after before.state plan) → OnErr result (IsUnchanged before now)
    → AreChained (machine_kept now)
finished-chained before now plan (Ok answer) is all for state unchanged =
    subst (λ (s : State). AreChained (machine_of s)) (sym state)
    (plan-chained before.state before.saved for.command plan is all for.plan_of)
finished-chained before now plan (Err error) is all for state unchanged =
    subst (λ (s : State). AreChained (machine_of s)) (sym unchanged.same_state) all

-- ---- the books of a state that an engine keeps

steps-sound :
    (next : ℕ) (steps : List (ℕ × Edit)) (book : Book) → AreSoundSteps next steps book
    → All (IsSoundBelow next) (books_to steps book)
steps-sound next [] book are = All-nil (IsSoundBelow next)
steps-sound next (step ∷ steps) book are =
    All-cons (IsSoundBelow next) (edited step.1 book) (books_to steps (edited step.1 book))
    (record { sound = are.0.sound; drawn = are.0.drawn }) (steps-sound next steps (edited step.1 book) are.1)

-- All books of a state that an engine keeps are sound.
pub whole-sound : (state : State) (saved : Bool) → IsWhole state saved → AreSound (machine_of state)
whole-sound state saved whole = record {
  past = steps-sound state.next (reverse state.back) state.book whole.history.back_sound;
  state = whole.sound;
  later = steps-sound state.next state.forth state.book whole.history.forth_sound;
}
