use Rattle.std.proofs.Common.{◌≡◌, rules, Some}
use Rattle.book_commodity.specs.Rules.{first_broken}
use Rattle.book_step.specs.Schedules.{multipliers}
use Rattle.book_step.proofs.ScheduleLemmas.{multiplier-broken}
use Rattle.book_step.proofs.schedules.check_multipliers.Goals as goal

pub returns-in_err-check_multiplier : goal.returns-in_err-check_multiplier
returns-in_err-check_multiplier c =
    let first : first_broken (multipliers 0 c.args.recurrences.now) ≡ Some c.in_err-check_multiplier.field-0.0 =
    multiplier-broken c.args.recurrences.now c.loop-place.place c.index-recurrences-place.result
    c.in_err-check_multiplier.field-0.0 c.loop-place-test.true c.index-recurrences-place.is c.loop-place.invariant
    c.in_err-check_multiplier.ensures in
    search rules
