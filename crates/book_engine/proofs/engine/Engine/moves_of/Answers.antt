use Rattle.std.proofs.Common.{◌≡◌, Option, None, Some, IfOk, ap, sym, ◌∙◌, subst}
use Rattle.book_free.specs.Moves.{AreMoves}
use Rattle.book_sound.specs.Soundness.{IsSoundBook}
use Rattle.book_undo.specs.Edit.{edited}
use Rattle.book_undo.specs.EditRules.{IsAllowed}
use Rattle.book_turns.specs.declared.turn.Turn.{Turn}
use Rattle.book_engine.specs.Kept.{Kept}
use Rattle.book_engine.specs.Planned.{AreMovesOf, Planned}
use Rattle.book_engine.proofs.TurnNow.{planned_allowed, planned_sound}
use Rattle.book_engine.proofs.engine.Engine.moves_of.Goals as goal

pub moves-requires-clause-allowed : goal.moves-requires-clause-allowed
moves-requires-clause-allowed c =
    let now = c.args.self.now in
    let some : c.args.plan.now.turn ≡ Some c.in-Some.turn =
    ap (λ (p : Planned). p.turn) (sym c.plan.view_is) ∙ c.in-Some.is in
    subst (λ (k : Kept). IsAllowed k.state.book c.in-Some.turn.edit) (sym c.self.view_is)
    (planned_allowed now.state now.saved c.args.plan.now c.in-Some.turn c.requires some)

pub moves-requires-clause-later_sound : goal.moves-requires-clause-later_sound
moves-requires-clause-later_sound c =
    let now = c.args.self.now in
    let some : c.args.plan.now.turn ≡ Some c.in-Some.turn =
    ap (λ (p : Planned). p.turn) (sym c.plan.view_is) ∙ c.in-Some.is in
    subst (λ (k : Kept). IsSoundBook (edited c.in-Some.turn.edit k.state.book)) (sym c.self.view_is)
    (planned_sound now.state now.saved c.args.plan.now c.in-Some.turn c.requires some)

pub returns-in-Some : goal.returns-in-Some
returns-in-Some c =
    let some : c.args.plan.now.turn ≡ Some c.in-Some.turn =
    ap (λ (p : Planned). p.turn) (sym c.plan.view_is) ∙ c.in-Some.is in
    let edit = c.in-Some.turn.edit in
    subst (λ (t : Option Turn). IfOk c.moves.result (λ moves. AreMovesOf c.args.self.now.state moves t)) (sym some)
    (subst (λ (k : Kept). IfOk c.moves.result (λ moves. AreMoves k.state.book (edited edit k.state.book) moves))
    c.self.view_is c.moves.ensures)

pub returns-in-None : goal.returns-in-None
returns-in-None c =
    let none : c.args.plan.now.turn ≡ None = ap (λ (p : Planned). p.turn) (sym c.plan.view_is) ∙ c.in-None.is in
    subst (λ (t : Option Turn). AreMovesOf c.args.self.now.state c.none.result t) (sym none) c.none.ensures
