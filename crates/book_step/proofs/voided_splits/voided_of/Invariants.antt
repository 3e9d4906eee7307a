use Rattle.std.proofs.Common.{◌≡◌, ◌++◌, drop}
use Rattle.book_step.specs.Voiding.{voided_of}
use Rattle.book_step.proofs.voided_splits.voided_of.Given as goal

abbrev pub invariant-loop-number : goal.invariant-loop-number
invariant-loop-number l =
    l.shown ++ voided_of l.account (drop l.number-index l.transactions) ≡ voided_of l.account l.transactions
