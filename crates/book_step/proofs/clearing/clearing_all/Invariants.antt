use Rattle.std.proofs.Common.{◌≡◌, ◌++◌, drop}
use Rattle.std.specs.BTreeSet.{contains}
use Rattle.std.specs.Ordering.{nat_cmp}
use Rattle.book_step.specs.AutoMatching.{clearing, clears}
use Rattle.book_step.specs.Remarking.{remarking}
use Rattle.book_step.proofs.clearing.clearing_all.Given as goal

abbrev pub invariant-loop-number : goal.invariant-loop-number
invariant-loop-number l =
    let taken = contains nat_cmp l.taken in
    l.edits.items ++ remarking (clears taken) (clearing taken) (drop l.number-index l.transactions)
    ≡ remarking (clears taken) (clearing taken) l.transactions
