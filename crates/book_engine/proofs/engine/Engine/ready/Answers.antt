use Rattle.std.proofs.Common.{sym, subst}
use Rattle.book_opening.specs.State.{State}
use Rattle.book_step.specs.Soundness.{IsSound}
use Rattle.book_turns.specs.Whole.{step_state}
use Rattle.book_engine.proofs.engine.Engine.ready.Goals as goal

pub returns-in-Ok-make_room-clause-sound : goal.returns-in-Ok-make_room-clause-sound
returns-in-Ok-make_room-clause-sound c =
    subst (λ (s : State). IsSound (step_state s)) (sym c.make_room.ensures.unchanged.same_state)
    c.known.ensures.whole.sound

pub returns-in-Err-make_room-clause-sound : goal.returns-in-Err-make_room-clause-sound
returns-in-Err-make_room-clause-sound c =
    subst (λ (s : State). IsSound (step_state s)) (sym c.make_room.ensures.unchanged.same_state)
    c.known.ensures.whole.sound
