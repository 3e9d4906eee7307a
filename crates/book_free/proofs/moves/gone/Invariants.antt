use Rattle.std.proofs.Common.{◌≡◌, ◌++◌, drop}
use Rattle.book_free.specs.Following.{leaving, picked}
use Rattle.book_free.proofs.moves.gone.Given as goal

abbrev pub invariant-loop-change : goal.invariant-loop-change
invariant-loop-change l = l.gone.items ++ picked leaving (drop l.change-index l.splits) ≡ picked leaving l.splits
