use Rattle.std.proofs.Common.{sym, ap, ◌∙◌, subst}
use Rattle.book_opening.specs.State.{state_of}
use Rattle.book_undo.specs.Edit.{outline}
use Rattle.book_undo.specs.Inverse.{LeadsBack}
use Rattle.book_undo.specs.declared.edit.Edit.{Edit}
use Rattle.book_turns.specs.Turned.{turn_of}
use Rattle.book_turns.specs.declared.turn.Turn.{Turn}
use Rattle.book_turns.proofs.TurnLemmas.{kept_can, whole_bounds}
use Rattle.book_engine.proofs.planning.kept_turn.Goals as goal

pub inverse-requires : goal.inverse-requires
inverse-requires c =
    let state = state_of c.args.state.now in
    (kept_can state c.args.saved c.args.way c.args.edit.now c.requires.whole c.requires.kept).1.allowed

pub of-requires-clause-can : goal.of-requires-clause-can
of-requires-clause-can c =
    let state = state_of c.args.state.now in
    (kept_can state c.args.saved c.args.way c.args.edit.now c.requires.whole c.requires.kept).0

pub of-requires-clause-bounds : goal.of-requires-clause-bounds
of-requires-clause-bounds c = whole_bounds (state_of c.args.state.now) c.args.saved c.requires.whole

pub returns-in-Ok-clause-turn : goal.returns-in-Ok-clause-turn
returns-in-Ok-clause-turn c =
    let state = state_of c.args.state.now in
    c.of.ensures
    ∙ ap (λ (e : Edit). turn_of state c.args.way e c.in_ok-inverse.inverse state.next) c.in-Ok.ensures
    ∙ ap (λ (i : Edit). turn_of state c.args.way c.args.edit.now i state.next)
    (sym (ap (λ (t : Turn). t.inverse) c.of.ensures))

pub returns-in-Ok-clause-back : goal.returns-in-Ok-clause-back
returns-in-Ok-clause-back c =
    subst (LeadsBack (state_of c.args.state.now).book c.args.edit.now)
    (sym (ap (λ (t : Turn). t.inverse) c.of.ensures)) c.in_ok-inverse.ensures.back

pub returns-in-Ok-clause-form : goal.returns-in-Ok-clause-form
returns-in-Ok-clause-form c =
    ap outline (ap (λ (t : Turn). t.inverse) c.of.ensures) ∙ c.in_ok-inverse.ensures.form
