use Rattle.std.proofs.Common.{◌≡◌, drop}
use Rattle.book_splits.specs.Check.{rules_of_splits}
use Rattle.book_commodity.specs.Rules.{first_broken}
use Rattle.book_splits.proofs.check.check_splits.Given as goal

abbrev pub invariant-loop-place : goal.invariant-loop-place
invariant-loop-place l =
    first_broken (rules_of_splits l.accounts.entries l.currency 0 l.splits)
    ≡ first_broken (rules_of_splits l.accounts.entries l.currency l.place (drop l.place l.splits))
