use Rattle.std.proofs.Common.{◌≡◌, ℕ, ◌||◌, drop}
use Rattle.std.specs.BTreeSet.{contains}
use Rattle.std.specs.Ordering.{nat_cmp}
use Rattle.book_step.specs.AutoMatching.{has_pair}
use Rattle.book_step.proofs.clearing.paired_splits.Given as goal

abbrev pub invariant-loop-pair : goal.invariant-loop-pair
invariant-loop-pair l =
    (number : ℕ) → (has_pair (drop l.pair-index l.pairs) number || contains nat_cmp l.taken number)
    ≡ has_pair l.pairs number
