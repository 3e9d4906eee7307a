use Rattle.std.proofs.Common.{ap, ◌∙◌}
use Rattle.book_lots.specs.Sides.{mark_of_side}
use Rattle.book_lots.proofs.SideLemmas.{mark_is}
use Rattle.book_lots.proofs.side.Side.mark.Goals as goal

pub returns-clause-mark : goal.returns-clause-mark
returns-clause-mark c =
    mark_is c.self.inside.stretches.items c.self.inside.lots.items c.self.inside.head c.self.inside.units
    c.self.inside.paired c.len.result c.self.invariant (c.len.ensures ∙ c.self.inside.stretches.ok.0)
    ∙ ap mark_of_side c.self.view_is
