use Rattle.std.proofs.Common.{◌≡◌, ◌==◌, drop}
use Rattle.std.specs.List.{list_any}
use Rattle.book_splits.specs.Balance.{has_splits as stands_on, splits_of}
use Rattle.book_splits.proofs.account_splits.has_splits.Given as goal

abbrev pub invariant-loop-transaction : goal.invariant-loop-transaction
invariant-loop-transaction l =
    stands_on l.transactions.entries l.account
    ≡ list_any (λ split. split.account == l.account) (splits_of (drop l.transaction-index l.transaction-items))
