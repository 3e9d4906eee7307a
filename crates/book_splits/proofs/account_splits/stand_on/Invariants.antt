use Rattle.std.proofs.Common.{◌≡◌, ◌==◌, drop}
use Rattle.std.specs.List.{list_any}
use Rattle.book_splits.proofs.account_splits.stand_on.Given as goal

abbrev pub invariant-loop-split : goal.invariant-loop-split
invariant-loop-split l =
    list_any (λ split. split.account == l.account) l.splits
    ≡ list_any (λ split. split.account == l.account) (drop l.split-index l.splits)
