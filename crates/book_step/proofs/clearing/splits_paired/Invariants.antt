use Rattle.std.proofs.Common.{◌≡◌, map, take}
use Rattle.std.specs.BTreeSet.{contains}
use Rattle.std.specs.Ordering.{nat_cmp}
use Rattle.book_step.specs.AutoMatching.{split_paired}
use Rattle.book_step.proofs.clearing.splits_paired.Given as goal

abbrev pub invariant-loop-split : goal.invariant-loop-split
invariant-loop-split l =
    l.paired ≡ map (split_paired (contains nat_cmp l.taken)) (take l.split-index l.splits)
