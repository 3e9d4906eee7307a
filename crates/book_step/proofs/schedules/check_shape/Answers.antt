use Rattle.std.proofs.Common.{◌≡◌, ◌∷◌, [], List, Some, None, subst}
use Rattle.book_commodity.specs.Rules.{first_broken}
use Rattle.book_commodity.proofs.RuleLemmas.{reports-past}
use Rattle.book_schedule.specs.declared.recurrence.Recurrence.{Recurrence}
use Rattle.book_step.specs.Schedules.{multipliers, range_rule}
use Rattle.book_step.proofs.OutcomeLemmas.{reported}
use Rattle.book_step.proofs.schedules.check_shape.Goals as goal

pub returns-in_err-check_multipliers : goal.returns-in_err-check_multipliers
returns-in_err-check_multipliers c =
    let timing = c.args.timing.now in
    let rule = c.in_err-check_multipliers.field-0.0 in
    reported (multipliers 0 timing.recurrences) (range_rule timing ∷ []) rule c.from_residual.result
    c.from_residual.ensures.1
    (subst (λ (rs : List Recurrence). first_broken (multipliers 0 rs) ≡ Some rule) c.as_slice.ensures
    c.in_err-check_multipliers.ensures)

pub returns : goal.returns
returns c =
    let timing = c.args.timing.now in
    reports-past (multipliers 0 timing.recurrences) (range_rule timing ∷ []) c.check_ranges.result
    (subst (λ (rs : List Recurrence). first_broken (multipliers 0 rs) ≡ None) c.as_slice.ensures
    c.in_ok-check_multipliers.ensures)
    c.check_ranges.ensures
