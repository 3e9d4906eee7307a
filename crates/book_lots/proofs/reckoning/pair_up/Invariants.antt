use Rattle.std.proofs.Common.{◌≡◌, ◌-◌, ◌++◌}
use Rattle.book_lots.specs.Lots.{open_past, pairs_between, units_of}
use Rattle.book_lots.specs.Sides.{Begins}
use Rattle.book_lots.proofs.ReckoningLemmas.{PairsSoFar}
use Rattle.book_lots.proofs.reckoning.pair_up.Given as goal

abbrev pub invariant-loop-plus : goal.invariant-loop-plus
invariant-loop-plus l = record {
  same : l.bought.paired ≡ l.sold.paired;
  bought : l.bought.stretches ≡ l.fn.bought.stretches;
  sold : l.sold.stretches ≡ l.fn.sold.stretches;
  so_far : PairsSoFar (l.fn.pairs.items ++ pairs_between (open_past l.fn.bought.paired l.fn.bought.stretches)
      (open_past l.fn.sold.paired l.fn.sold.stretches)) l.bought l.sold l.pairs.items;
  begun : Begins l.fn.pairs.items l.pairs.items;
}

abbrev pub decreases-loop-plus : goal.decreases-loop-plus
decreases-loop-plus l = units_of l.fn.bought.stretches - l.bought.paired
