use Rattle.std.proofs.Common.{sym, subst}
use Rattle.book_opening.specs.State.{state_of}
use Rattle.book_step.specs.Step.{outcome}
use Rattle.book_turns.specs.Whole.{step_state}
use Rattle.book_engine.specs.Books.{machine_of}
use Rattle.book_engine.specs.Machine.{updated}
use Rattle.book_engine.specs.Planned.{IsPlanTo, Planned}
use Rattle.book_engine.proofs.PlanLemmas.{change_to, is_stay_plan, planned_change, updated_stay}
use Rattle.book_engine.proofs.planning.plan_update.Goals as goal

pub returns-then-is_nothing-clause-planned : goal.returns-then-is_nothing-clause-planned
returns-then-is_nothing-clause-planned c =
    let state = state_of c.args.state.now in
    let taken = c.in_ok-step.step in
    let comes = updated (machine_of state) (outcome (step_state state) c.args.update) in
    subst (λ (p : Planned). IsPlanTo state c.args.saved comes p) (sym c.plan_stay.ensures)
    (is_stay_plan state c.args.saved taken.answer comes c.requires.whole
    (updated_stay state c.args.update taken c.in_ok-step.ensures.done (sym c.if-is_nothing.ensures)))

pub plan_change-requires-clause-sound : goal.plan_change-requires-clause-sound
plan_change-requires-clause-sound c =
    change_to (state_of c.args.state.now) c.args.saved c.args.update c.in_ok-step.step c.requires.whole
    c.in_ok-step.ensures.done (sym c.if-is_nothing.ensures)

pub returns-in-Ok-clause-planned : goal.returns-in-Ok-clause-planned
returns-in-Ok-clause-planned c =
    planned_change (state_of c.args.state.now) c.args.saved c.args.update c.in_ok-step.step c.in-Ok.plan
    c.requires.whole c.in_ok-step.ensures.done (sym c.if-is_nothing.ensures) c.in-Ok.ensures
