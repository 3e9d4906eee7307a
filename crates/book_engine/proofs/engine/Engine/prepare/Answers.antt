use Rattle.std.proofs.Common.{subst}
use Rattle.book_report_answers.specs.LotsAsked.{lots_asked}
use Rattle.book_engine.specs.Kept.{Kept}
use Rattle.book_engine.specs.Planned.{IsPlanned}
use Rattle.book_engine.proofs.LotsLemmas.{kept_up_left, reckoned_left}
use Rattle.book_engine.proofs.RoomLemmas.{no_less_by, still_room}
use Rattle.book_engine.proofs.engine.Engine.prepare.Goals as goal

pub ready-requires : goal.ready-requires
ready-requires c =
    subst (λ (k : Kept). IsPlanned k.state k.saved c.in_ok-plan.plan) c.self.view_is
    (record { command = c.args.command; plan_of = c.in_ok-plan.ensures.planned })

pub returns-in-Ok-clause-kept_up : goal.returns-in-Ok-clause-kept_up
returns-in-Ok-clause-kept_up c =
    kept_up_left c.args.self.now c.reckon_for.new.self c.ready.new.self
    (lots_asked c.args.self.now.state.book.accounts c.args.command.what) c.reckon_for.ensures.kept_up
    c.ready.ensures.left

pub returns-in-Ok-clause-reckoned : goal.returns-in-Ok-clause-reckoned
returns-in-Ok-clause-reckoned c =
    reckoned_left c.args.self.now c.reckon_for.new.self c.ready.new.self
    (lots_asked c.args.self.now.state.book.accounts c.args.command.what) c.in_default.ensures.reckoned
    c.ready.ensures.left

pub returns-in-Err-ready-clause-kept_up : goal.returns-in-Err-ready-clause-kept_up
returns-in-Err-ready-clause-kept_up c =
    kept_up_left c.args.self.now c.reckon_for.new.self c.ready.new.self
    (lots_asked c.args.self.now.state.book.accounts c.args.command.what) c.reckon_for.ensures.kept_up
    c.ready.ensures.left

pub returns-in-Ok-clause-spare : goal.returns-in-Ok-clause-spare
returns-in-Ok-clause-spare c =
    no_less_by c.args.self.now c.reckon_for.new.self c.ready.new.self c.reckon_for.ensures.spare
    c.ready.ensures.spare

pub returns-in-Ok-clause-earlier_room : goal.returns-in-Ok-clause-earlier_room
returns-in-Ok-clause-earlier_room c =
    still_room c.args.self.now c.ready.new.self
    (no_less_by c.args.self.now c.reckon_for.new.self c.ready.new.self c.reckon_for.ensures.spare
    c.ready.ensures.spare)

pub returns-in-Err-ready-clause-spare : goal.returns-in-Err-ready-clause-spare
returns-in-Err-ready-clause-spare c =
    no_less_by c.args.self.now c.reckon_for.new.self c.ready.new.self c.reckon_for.ensures.spare
    c.ready.ensures.spare

pub returns-in-Err-ready-clause-earlier_room : goal.returns-in-Err-ready-clause-earlier_room
returns-in-Err-ready-clause-earlier_room c =
    still_room c.args.self.now c.ready.new.self
    (no_less_by c.args.self.now c.reckon_for.new.self c.ready.new.self c.reckon_for.ensures.spare
    c.ready.ensures.spare)

pub returns-in-Err-clause-earlier_room : goal.returns-in-Err-clause-earlier_room
returns-in-Err-clause-earlier_room c = still_room c.args.self.now c.reckon_for.new.self c.reckon_for.ensures.spare

pub returns-in_err-plan-clause-earlier_room : goal.returns-in_err-plan-clause-earlier_room
returns-in_err-plan-clause-earlier_room c = still_room c.args.self.now c.reckon_for.new.self c.reckon_for.ensures.spare
