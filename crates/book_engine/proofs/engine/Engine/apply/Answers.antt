use Rattle.std.proofs.Common.{◌≡◌, ◌||◌, Option, None, Some, is_some, ap, sym, ◌∙◌, subst}
use Rattle.book_turns.specs.declared.turn.Turn.{Turn}
use Rattle.book_engine.specs.Planned.{HasRoomForTurn, IsTurnNow, Planned, after_turn}
use Rattle.book_engine.proofs.TurnNow.{either_same, either_true, not_changed, room_now, turn_now}
use Rattle.book_engine.proofs.engine.Engine.apply.Goals as goal

pub take_turn-requires-clause-made : goal.take_turn-requires-clause-made
take_turn-requires-clause-made c =
    let now = c.args.self.now in
    let some : c.args.plan.turn ≡ Some c.in-Some.turn =
    ap (λ (p : Planned). p.turn) (sym c.plan.view_is) ∙ c.in-Some.is in
    subst (λ (p : Planned). IsTurnNow now.state c.in-Some.turn p.moves) (sym c.plan.view_is)
    (turn_now now.state now.saved c.args.plan c.in-Some.turn c.requires.made some)

pub take_turn-requires-clause-room : goal.take_turn-requires-clause-room
take_turn-requires-clause-room c =
    let now = c.args.self.now in
    let some : c.args.plan.turn ≡ Some c.in-Some.turn =
    ap (λ (p : Planned). p.turn) (sym c.plan.view_is) ∙ c.in-Some.is in
    subst (λ (p : Planned). HasRoomForTurn now c.in-Some.turn.edit p.moves) (sym c.plan.view_is)
    (room_now now c.args.plan c.in-Some.turn c.requires.room some)

pub returns-in-Some-clause-state : goal.returns-in-Some-clause-state
returns-in-Some-clause-state c =
    let some : c.args.plan.turn ≡ Some c.in-Some.turn =
    ap (λ (p : Planned). p.turn) (sym c.plan.view_is) ∙ c.in-Some.is in
    c.take_turn.ensures.state ∙ sym (ap (λ (t : Option Turn). after_turn t c.args.self.now.state) some)

pub returns-in-Some-clause-saved : goal.returns-in-Some-clause-saved
returns-in-Some-clause-saved c =
    let saved = c.args.self.now.saved in
    let some : c.args.plan.turn ≡ Some c.in-Some.turn =
    ap (λ (p : Planned). p.turn) (sym c.plan.view_is) ∙ c.in-Some.is in
    c.take_turn.ensures.saved ∙ sym (ap (λ (t : Option Turn). saved || is_some t) some ∙ either_true saved)

pub returns-clause-state : goal.returns-clause-state
returns-clause-state c =
    let none : c.args.plan.turn ≡ None = ap (λ (p : Planned). p.turn) (sym c.plan.view_is) ∙ c.in-None.is in
    sym (ap (λ (t : Option Turn). after_turn t c.args.self.now.state) none)

pub returns-clause-saved : goal.returns-clause-saved
returns-clause-saved c =
    let saved = c.args.self.now.saved in
    let none : c.args.plan.turn ≡ None = ap (λ (p : Planned). p.turn) (sym c.plan.view_is) ∙ c.in-None.is in
    sym (ap (λ (t : Option Turn). saved || is_some t) none ∙ either_same saved)

pub returns-clause-changes : goal.returns-clause-changes
returns-clause-changes c = not_changed c.args.self.now c.known.ensures.bounded c.known.ensures.index

pub returns-in-Some-clause-asked : goal.returns-in-Some-clause-asked
returns-in-Some-clause-asked c none =
    let some : c.args.plan.turn ≡ Some c.in-Some.turn =
    ap (λ (p : Planned). p.turn) (sym c.plan.view_is) ∙ c.in-Some.is in
    absurd (let e : Some c.in-Some.turn ≡ None = sym some ∙ none in cc)
