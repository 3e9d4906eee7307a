use Rattle.std.proofs.Common.{◌≡◌, take}
use Rattle.std.specs.List.{filter}
use Rattle.book_lots.specs.Lots.{gain_of, is_within}
use Rattle.book_lots.proofs.lots.Lots.gains.Given as goal

abbrev pub invariant-loop-pair : goal.invariant-loop-pair
invariant-loop-pair l = l.sum ≡ gain_of (filter (is_within l.from l.to) (take l.pair-index l.pair-items))
