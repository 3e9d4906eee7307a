use Rattle.std.proofs.Common.{◌≡◌, slice_get, Some, subst, arith}
use Rattle.book_lots.specs.Lots.{open_past}
use Rattle.book_lots.specs.Sides.{Paired}
use Rattle.book_lots.proofs.SideLemmas.{front_some}
use Rattle.book_lots.proofs.side.Side.front.Goals as goal

pub returns-clause-front : goal.returns-clause-front
returns-clause-front c =
    subst (λ (v : Paired). Some c.index.result.now ≡ slice_get (open_past v.paired v.stretches) 0) c.self.view_is
    (front_some c.self.inside.stretches.items c.self.inside.lots.items c.self.inside.head c.self.inside.paired
    c.self.invariant.queue (omega (arith, c.self.invariant.queue.within, c.self.inside.stretches.ok.0)) c.index.result.now c.index.ensures)
