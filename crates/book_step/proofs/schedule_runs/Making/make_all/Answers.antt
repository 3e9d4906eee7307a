use Rattle.book_step.proofs.RunWalkLemmas.{made_by-more}
use Rattle.book_step.proofs.schedule_runs.Making.make_all.Goals as goal

pub loop-run-preserved : goal.loop-run-preserved
loop-run-preserved c =
    made_by-more c.args.self.now c.args.runs.now c.loop-run.run-index _ c.loop-run.self c.make_days.new.self
    c.loop-run-test.true c.run-item.is c.loop-run.invariant c.in_ok-make_days.ensures
