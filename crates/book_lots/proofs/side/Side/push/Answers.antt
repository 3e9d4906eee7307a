use Rattle.std.proofs.Common.{◌≤◌, sym, subst, arith}
use Rattle.book_limits.specs.Limits.{largest_sum}
use Rattle.book_lots.specs.Lots.{units_of}
use Rattle.book_lots.specs.Sides.{Paired}
use Rattle.book_lots.proofs.SideLemmas.{side_push}
use Rattle.book_lots.proofs.side.Side.push.Goals as goal

pub invariant_of-self-2 : goal.invariant_of-self-2
invariant_of-self-2 c =
    let few : units_of c.self.inside.stretches.items ≤ largest_sum =
    subst (λ (v : Paired). units_of v.stretches ≤ largest_sum) (sym c.self.view_is) c.requires.few in
    rw (
      c.in-Ok-push.ensures.items,
      c.reserve.ensures.items,
      c.in-Ok.ensures.items,
      c.reserve-2.ensures.items,
      c.end-self-inside.ensures,
      c.rest.ensures,
      c.of-stretch.ensures,
    )
    (side_push c.self.inside.stretches.items c.self.inside.lots.items c.self.inside.head c.self.inside.units
    c.self.inside.paired c.args.place c.args.entry.now c.self.invariant c.requires.small c.requires.some
    (omega (arith, few, c.self.invariant.counted)))
