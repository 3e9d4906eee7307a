use Rattle.std.proofs.Common.{◌≡◌, drop}
use Rattle.book_commodity.specs.Rules.{first_broken}
use Rattle.book_step.specs.Schedules.{multipliers}
use Rattle.book_step.proofs.schedules.check_multipliers.Given as goal

abbrev pub invariant-loop-place : goal.invariant-loop-place
invariant-loop-place l =
    first_broken (multipliers 0 l.recurrences) ≡ first_broken (multipliers l.place (drop l.place l.recurrences))
