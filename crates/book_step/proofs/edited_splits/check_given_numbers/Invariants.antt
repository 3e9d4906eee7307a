use Rattle.std.proofs.Common.{◌≡◌, take, drop, []}
use Rattle.book_commodity.specs.Rules.{first_broken}
use Rattle.book_step.specs.Editing.{number_rules, numbers_given}
use Rattle.book_step.proofs.edited_splits.check_given_numbers.Given as goal

abbrev pub invariant-loop-place : goal.invariant-loop-place
invariant-loop-place l =
    first_broken (number_rules l.splits [] l.given)
    ≡ first_broken (number_rules l.splits (numbers_given (take l.place l.given)) (drop l.place l.given))
