use Rattle.std.proofs.Common.{arith}
use Rattle.book_engine.specs.Kept.{kept_by}
use Rattle.book_engine.proofs.RoomLemmas.{extends_same, no_less_room, same_free}
use Rattle.book_engine.proofs.engine.Engine.make_room_for.Goals as goal

pub returns-in_err-reserve_for-clause-spare : goal.returns-in_err-reserve_for-clause-spare
returns-in_err-reserve_for-clause-spare c =
    no_less_room (kept_by c.self.inside) c.args.self.now _ c.self.view_is c.reserve_for.ensures.spare
    (extends_same c.self.inside.registers.entries) (same_free c.self.inside.free) (omega arith) (omega arith)

pub returns-in_err-reserve-clause-spare : goal.returns-in_err-reserve-clause-spare
returns-in_err-reserve-clause-spare c =
    no_less_room (kept_by c.self.inside) c.args.self.now _ c.self.view_is c.reserve_for.ensures.spare
    (extends_same c.self.inside.registers.entries) (same_free c.self.inside.free) c.reserve.ensures.spare (omega arith)

pub returns-in_err-reserve-2-clause-spare : goal.returns-in_err-reserve-2-clause-spare
returns-in_err-reserve-2-clause-spare c =
    no_less_room (kept_by c.self.inside) c.args.self.now _ c.self.view_is c.reserve_for.ensures.spare
    (extends_same c.self.inside.registers.entries) (same_free c.self.inside.free) c.reserve.ensures.spare
    c.reserve-2.ensures.spare

pub returns-in_err-reserve_for-2-clause-spare : goal.returns-in_err-reserve_for-2-clause-spare
returns-in_err-reserve_for-2-clause-spare c =
    no_less_room (kept_by c.self.inside) c.args.self.now _ c.self.view_is c.reserve_for.ensures.spare
    c.reserve_for-2.ensures.extends (same_free c.self.inside.free) c.reserve.ensures.spare c.reserve-2.ensures.spare

pub returns-clause-spare : goal.returns-clause-spare
returns-clause-spare c =
    no_less_room (kept_by c.self.inside) c.args.self.now _ c.self.view_is c.reserve_for.ensures.spare
    c.reserve_for-2.ensures.extends c.reserve_for-3.ensures.same c.reserve.ensures.spare c.reserve-2.ensures.spare
