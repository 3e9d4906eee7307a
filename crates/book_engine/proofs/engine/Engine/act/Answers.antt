use Rattle.book_report_answers.specs.LotsAsked.{lots_asked}
use Rattle.book_engine.proofs.ChangedLemmas.{risen_from}
use Rattle.book_engine.proofs.LotsLemmas.{kept_up_left}
use Rattle.book_engine.proofs.StandLemmas.{leaves_step, stands_unchanged}
use Rattle.book_engine.proofs.engine.Engine.act.Goals as goal

pub returns-in-Ok-clause-stands : goal.returns-in-Ok-clause-stands
returns-in-Ok-clause-stands g c = λ stands.
    c.finish.ensures.stands
    (stands_unchanged g.K.Keeper c.args.keeper.now c.args.self.now c.prepare.new.self c.prepare.ensures.unchanged
    stands)

pub returns-in-Err-Failed-clause-stands : goal.returns-in-Err-Failed-clause-stands
returns-in-Err-Failed-clause-stands g c = λ stands.
    c.finish.ensures.stands
    (stands_unchanged g.K.Keeper c.args.keeper.now c.args.self.now c.prepare.new.self c.prepare.ensures.unchanged
    stands)

pub returns-in-Err-OutOfMemory-clause-stands : goal.returns-in-Err-OutOfMemory-clause-stands
returns-in-Err-OutOfMemory-clause-stands g c = λ stands.
    c.finish.ensures.stands
    (stands_unchanged g.K.Keeper c.args.keeper.now c.args.self.now c.prepare.new.self c.prepare.ensures.unchanged
    stands)

pub returns-in-Ok-clause-changes : goal.returns-in-Ok-clause-changes
returns-in-Ok-clause-changes g c =
    risen_from c.args.self.now c.prepare.new.self c.finish.new.self c.prepare.ensures.unchanged.same_state
    c.prepare.ensures.kept_up.each c.prepare.ensures.kept_up.free c.in-Ok.ensures.changes

pub returns-in-Ok-clause-acted : goal.returns-in-Ok-clause-acted
returns-in-Ok-clause-acted g c = record {
  mid = c.prepare.new.self;
  kept_up = c.prepare.ensures.kept_up;
  reckoned = c.in_ok-plan.ensures.reckoned;
  changed = c.in-Ok.ensures.changes;
}

pub returns-in-Err-Failed-clause-kept_up : goal.returns-in-Err-Failed-clause-kept_up
returns-in-Err-Failed-clause-kept_up g c =
    kept_up_left c.args.self.now c.prepare.new.self c.finish.new.self
    (lots_asked c.args.self.now.state.book.accounts c.args.command.what) c.prepare.ensures.kept_up
    c.in-Err-Failed.ensures.left

pub returns-in-Err-OutOfMemory-clause-kept_up : goal.returns-in-Err-OutOfMemory-clause-kept_up
returns-in-Err-OutOfMemory-clause-kept_up g c =
    kept_up_left c.args.self.now c.prepare.new.self c.finish.new.self
    (lots_asked c.args.self.now.state.book.accounts c.args.command.what) c.prepare.ensures.kept_up
    c.in-Err-OutOfMemory.ensures.left

pub returns-in-Err-Failed-clause-leaves : goal.returns-in-Err-Failed-clause-leaves
returns-in-Err-Failed-clause-leaves g c =
    leaves_step g.K.Keeper c.args.keeper.now c.finish.new.keeper c.args.self.now c.args.command c.in_ok-plan.plan
    c.in-Err-Failed.ensures.leaves c.in_ok-plan.ensures.planned c.in-Err-Failed.ensures.commits

pub returns-in-Err-OutOfMemory-clause-leaves : goal.returns-in-Err-OutOfMemory-clause-leaves
returns-in-Err-OutOfMemory-clause-leaves g c =
    leaves_step g.K.Keeper c.args.keeper.now c.finish.new.keeper c.args.self.now c.args.command c.in_ok-plan.plan
    c.in-Err-OutOfMemory.ensures.leaves c.in_ok-plan.ensures.planned c.in-Err-OutOfMemory.ensures.commits

pub returns-in_err-plan-clause-stands : goal.returns-in_err-plan-clause-stands
returns-in_err-plan-clause-stands g c =
    stands_unchanged g.K.Keeper c.args.keeper.now c.args.self.now c.prepare.new.self c.prepare.ensures.unchanged
