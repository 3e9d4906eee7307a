use Rattle.std.proofs.Common.{◌≡◌, ℕ, take}
use Rattle.book_splits.specs.Balance.{quantity_on}
use Rattle.book_balances.specs.Balances.{moved}
use Rattle.book_balances.proofs.moves.Moves.of.Given as goal

abbrev pub invariant-loop-split : goal.invariant-loop-split
invariant-loop-split l =
    (account : ℕ) → moved account l.moves.sums.entries ≡ quantity_on account (take l.split-index l.splits)
