use Rattle.std.proofs.Common.{◌≡◌, ◌++◌, drop}
use Rattle.book_free.specs.Following.{coming, picked}
use Rattle.book_free.proofs.moves.come.Given as goal

abbrev pub invariant-loop-change : goal.invariant-loop-change
invariant-loop-change l = l.come.items ++ picked coming (drop l.change-index l.splits) ≡ picked coming l.splits
