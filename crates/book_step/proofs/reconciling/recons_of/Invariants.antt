use Rattle.std.proofs.Common.{◌≡◌, ◌++◌, drop}
use Rattle.book_step.specs.Reconciling.{recons_among}
use Rattle.book_step.proofs.reconciling.recons_of.Given as goal

abbrev pub invariant-loop-number : goal.invariant-loop-number
invariant-loop-number l =
    l.shown ++ recons_among l.transactions.entries l.account (drop l.number-index l.reconciliations)
    ≡ recons_among l.transactions.entries l.account l.reconciliations
