use Rattle.book_step.proofs.RunWalkLemmas.{AreMadeOn}
use Rattle.book_step.proofs.schedule_runs.Making.make_days.Given as goal

abbrev pub invariant-loop-day : goal.invariant-loop-day
invariant-loop-day l = AreMadeOn l.fn.self l.run l.day-index l.self
