use Rattle.std.proofs.Common.{◌≡◌, drop}
use lib.Pointwise.{pointwise}
use Rattle.book_step.specs.SameTransaction.{same_kept}
use Rattle.book_step.proofs.same_transaction.are_same_kept.Given as goal

abbrev pub invariant-loop-place : goal.invariant-loop-place
invariant-loop-place l =
    pointwise (λ a b. (same_kept a b).is) l.kept l.others
    ≡ pointwise (λ a b. (same_kept a b).is) (drop l.place l.kept) (drop l.place l.others)
