use Rattle.std.proofs.Common.{ap, sym, ◌∙◌}
use Rattle.std.specs.Option.{option_copied}
use Rattle.std.proofs.lemmas.Result.{IfErr-weaker}
use Rattle.book_opening.specs.State.{state_of}
use Rattle.book_engine.proofs.PlanLemmas.{ok_with, planned_redo}
use Rattle.book_engine.proofs.MachineLemmas.{redo_nothing, redo_refused}
use Rattle.book_engine.proofs.planning.plan_redo.Goals as goal

pub returns-in-Some-clause-planned : goal.returns-in-Some-clause-planned
returns-in-Some-clause-planned c =
    let state = state_of c.args.state.now in
    ok_with c.plan_kept.result _ _ _
    (λ plan none made. planned_redo state c.args.saved c.in-Some.edit.now plan c.requires
    (sym c.find.ensures ∙ ap option_copied c.in-Some.is) none made)
    c.plan_kept.ensures.within c.plan_kept.ensures.planned

pub returns-in-Some-clause-refused : goal.returns-in-Some-clause-refused
returns-in-Some-clause-refused c =
    IfErr-weaker c.plan_kept.result _ _
    (λ why limit. redo_refused (state_of c.args.state.now) c.args.saved c.in-Some.edit.now why c.requires
    (sym c.find.ensures ∙ ap option_copied c.in-Some.is) limit)
    c.plan_kept.ensures.refused

pub returns-in-None-clause-refused : goal.returns-in-None-clause-refused
returns-in-None-clause-refused c =
    redo_nothing (state_of c.args.state.now) c.args.saved c.requires
    (sym c.find.ensures ∙ ap option_copied c.in-None.is)
