use Rattle.book_step.proofs.RunWalkLemmas.{AreMadeBy}
use Rattle.book_step.proofs.schedule_runs.Making.make_all.Given as goal

abbrev pub invariant-loop-run : goal.invariant-loop-run
invariant-loop-run l = AreMadeBy l.fn.self l.runs l.run-index l.self
