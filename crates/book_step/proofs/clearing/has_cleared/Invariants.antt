use Rattle.std.proofs.Common.{◌≡◌, drop}
use Rattle.std.specs.BTreeSet.{contains}
use Rattle.std.specs.List.{list_any}
use Rattle.std.specs.Ordering.{nat_cmp}
use Rattle.book_step.specs.AutoMatching.{becomes_cleared, clears}
use Rattle.book_step.specs.Remarking.{has_touched}
use Rattle.book_step.proofs.clearing.has_cleared.Given as goal

abbrev pub invariant-loop-split : goal.invariant-loop-split
invariant-loop-split l =
    list_any (becomes_cleared (contains nat_cmp l.taken)) (drop l.split-index l.split-items)
    ≡ has_touched (clears (contains nat_cmp l.taken)) l.transaction
