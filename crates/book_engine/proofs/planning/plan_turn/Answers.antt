use Rattle.book_opening.specs.State.{state_of}
use Rattle.book_engine.proofs.PlanLemmas.{made_plan}
use Rattle.book_engine.proofs.planning.plan_turn.Goals as goal

pub returns-in-Ok-clause-plan : goal.returns-in-Ok-clause-plan
returns-in-Ok-clause-plan c =
    made_plan (state_of c.args.state.now) c.args.saved c.args.turn c.args.answer c.in-Ok.changes c.none.result
    c.requires.turn.head c.in-Ok.ensures.changes c.none.ensures
