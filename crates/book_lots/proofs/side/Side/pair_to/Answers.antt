use Rattle.std.proofs.Common.{sym, subst, arith}
use Rattle.book_lots.specs.Sides.{IsFrontTo, Paired}
use Rattle.book_lots.proofs.SideLemmas.{side_next, side_part}
use Rattle.book_lots.proofs.side.Side.pair_to.Goals as goal

pub invariant_of-self : goal.invariant_of-self
invariant_of-self c =
    rw c.rest.ensures
    (side_part c.self.inside.stretches.items c.self.inside.lots.items c.self.inside.head c.self.inside.units
    c.self.inside.paired c.args.number c.self.invariant
    (subst (λ (v : Paired). IsFrontTo v c.args.number) (sym c.self.view_is) c.requires) c.index.result.now
    c.index.ensures (omega (arith, c.end.ensures, c.if-number-end.true)))

pub invariant_of-self-2 : goal.invariant_of-self-2
invariant_of-self-2 c =
    rw c.rest-2.ensures
    (side_next c.self.inside.stretches.items c.self.inside.lots.items c.self.inside.head c.self.inside.units
    c.self.inside.paired c.args.number c.self.invariant
    (subst (λ (v : Paired). IsFrontTo v c.args.number) (sym c.self.view_is) c.requires) c.index.result.now
    c.index.ensures (omega (arith, c.end.ensures, c.if-number-end.false)))
