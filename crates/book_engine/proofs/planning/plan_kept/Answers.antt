use Rattle.std.proofs.Common.{true, sym, subst, arith}
use Rattle.std.proofs.lemmas.Bool.Decides.{nat_tests}
use Rattle.book_opening.specs.State.{state_of}
use Rattle.book_turns.specs.Whole.{IsWhole}
use Rattle.book_turns.specs.Turned.{IsTurnFor, turned}
use Rattle.book_turns.specs.declared.turn.Turn.{Turn}
use Rattle.book_engine.proofs.PlanLemmas.{kept_turn_for}
use Rattle.book_turns.proofs.TurnLemmas.{kept_whole, numbers_within}
use Rattle.book_engine.proofs.planning.plan_kept.Goals as goal

pub plan_turn-requires-clause-after : goal.plan_turn-requires-clause-after
plan_turn-requires-clause-after c =
    let state = state_of c.args.state.now in
    let test = c.if-state-ge-NUMBERS_LIMIT.false in
    subst (λ (t : Turn). IsWhole (turned t state) true) (sym c.in-Ok.ensures.turn)
    (kept_whole state c.args.saved c.args.way c.args.edit.now c.in-Ok.turn.inverse c.requires.whole c.requires.kept
    c.in-Ok.ensures.back (numbers_within state c.requires.whole.sound.next (grind (arith, nat_tests, test))))

pub plan_turn-requires-clause-turn : goal.plan_turn-requires-clause-turn
plan_turn-requires-clause-turn c =
    let state = state_of c.args.state.now in
    subst (λ (t : Turn). IsTurnFor state c.args.saved t) (sym c.in-Ok.ensures.turn)
    (kept_turn_for state c.args.saved c.args.way c.args.edit.now c.in-Ok.turn.inverse c.requires.whole c.requires.kept
    c.in-Ok.ensures.back)
