use Rattle.book_step.proofs.RunWalkLemmas.{made_on-next}
use Rattle.book_step.proofs.schedule_runs.Making.make_days.Goals as goal

pub loop-day-preserved : goal.loop-day-preserved
loop-day-preserved c =
    made_on-next c.args.self.now _ c.args.run.now _ c.loop-day.day-index _ c.loop-day.self c.make.new.self c.run.view_is
    c.as_slice-day-items.ensures c.loop-day-test.true c.day-item.is c.loop-day.invariant c.in_ok-make.ensures
