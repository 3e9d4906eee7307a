use Rattle.std.proofs.Common.{Option, OnOk, sym, subst}
use Rattle.book_turns.specs.declared.turn.Turn.{Turn}
use Rattle.book_engine.specs.Planned.{HasRoomFor, HasRoomIn, Planned}
use Rattle.book_engine.proofs.RoomLemmas.{same_room}
use Rattle.book_engine.proofs.engine.Engine.make_room.Goals as goal

pub returns-in-Some-clause-room : goal.returns-in-Some-clause-room
returns-in-Some-clause-room c =
    let made = c.make_room_for.result in
    let new = c.make_room_for.new.self in
    subst (λ (p : Planned). OnOk made (HasRoomFor new p)) c.plan.view_is
    (subst (λ (t : Option Turn). OnOk made (HasRoomIn new c.plan.inside.moves t)) (sym c.in-Some.is)
    c.make_room_for.ensures.room)

pub returns-in-None-clause-room : goal.returns-in-None-clause-room
returns-in-None-clause-room c =
    let now = c.args.self.now in
    subst (λ (p : Planned). HasRoomFor now p) c.plan.view_is
    (subst (λ (t : Option Turn). HasRoomIn now c.plan.inside.moves t) (sym c.in-None.is) tt)

pub returns-in-None-clause-spare : goal.returns-in-None-clause-spare
returns-in-None-clause-spare c = same_room c.args.self.now
