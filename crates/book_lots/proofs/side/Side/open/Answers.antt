use Rattle.std.proofs.Common.{drop, ap, ◌∙◌}
use Rattle.std.proofs.lemmas.List.{take_rest}
use Rattle.book_lots.specs.Lots.{lots_past}
use Rattle.book_lots.specs.Sides.{Paired}
use Rattle.book_lots.proofs.QueueLemmas.{open_lots}
use Rattle.book_lots.proofs.side.Side.open.Goals as goal

pub returns : goal.returns
returns c =
    take_rest c.deref.result.now c.self.inside.head ∙ ap (drop c.self.inside.head) c.deref.ensures.value
    ∙ open_lots c.self.inside.stretches.items c.self.inside.lots.items c.self.inside.head c.self.inside.paired
    c.self.invariant.queue
    ∙ ap (λ (v : Paired). lots_past v.paired v.stretches) c.self.view_is
