use Rattle.std.proofs.Common.{true, sym, subst}
use Rattle.book_opening.specs.State.{state_of}
use Rattle.book_turns.specs.Turned.{IsTurnFor, turned}
use Rattle.book_turns.specs.Whole.{IsWhole}
use Rattle.book_turns.specs.declared.turn.Turn.{Turn}
use Rattle.book_turns.specs.declared.turn.Way.TheVariants.{Change as ToNew}
use Rattle.book_turns.proofs.TurnLemmas.{changed_whole, whole_bounds}
use Rattle.book_engine.proofs.PlanLemmas.{turn_for, turn_planned}
use Rattle.book_engine.proofs.planning.plan_change.Goals as goal

pub of-turn-requires-clause-bounds : goal.of-turn-requires-clause-bounds
of-turn-requires-clause-bounds c = whole_bounds (state_of c.args.state.now) c.args.saved c.requires.whole

pub plan_turn-requires-clause-after : goal.plan_turn-requires-clause-after
plan_turn-requires-clause-after c =
    let state = state_of c.args.state.now in
    subst (λ (t : Turn). IsWhole (turned t state) true) (sym c.of-turn.ensures)
    (changed_whole state c.args.saved c.args.edit c.in-Ok.inverse c.args.next c.requires.whole c.requires.sound
    c.in-Ok.ensures.back)

pub plan_turn-requires-clause-turn : goal.plan_turn-requires-clause-turn
plan_turn-requires-clause-turn c =
    let state = state_of c.args.state.now in
    subst (λ (t : Turn). IsTurnFor state c.args.saved t) (sym c.of-turn.ensures)
    (turn_for state c.args.saved c.args.edit c.in-Ok.inverse c.args.next c.requires.sound.allowed
    c.in-Ok.ensures.back)

pub returns : goal.returns
returns c =
    turn_planned (state_of c.args.state.now) c.args.saved ToNew c.args.edit c.in-Ok.inverse c.args.next c.args.answer
    c.of-turn.result c.plan_turn.result c.of-turn.ensures c.in-Ok.ensures.back c.in-Ok.ensures.form
    c.plan_turn.ensures.plan c.plan_turn.ensures.fits
