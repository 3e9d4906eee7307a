use Rattle.std.proofs.Common.{◌≡◌, drop}
use lib.Pointwise.{pointwise}
use Rattle.book_step.specs.SameTransaction.{same_split}
use Rattle.book_step.proofs.same_transaction.are_same.Given as goal

abbrev pub invariant-loop-place : goal.invariant-loop-place
invariant-loop-place l =
    pointwise (λ a b. (same_split a b).is) l.splits l.others
    ≡ pointwise (λ a b. (same_split a b).is) (drop l.place l.splits) (drop l.place l.others)
