use Rattle.std.proofs.Common.{◌≡◌, take}
use Rattle.book_lots.specs.Lots.{cost_of}
use Rattle.book_lots.proofs.lots.Lots.open_cost.Given as goal

abbrev pub invariant-loop-lot : goal.invariant-loop-lot
invariant-loop-lot l = l.sum ≡ cost_of (take l.lot-index l.lot-items)
