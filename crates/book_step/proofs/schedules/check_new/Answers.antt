use Rattle.book_commodity.proofs.RuleLemmas.{reports-past}
use Rattle.book_step.specs.Schedules.{entry_rules, shape_rules}
use Rattle.book_step.proofs.OutcomeLemmas.{reported}
use Rattle.book_step.proofs.schedules.check_new.Goals as goal

pub returns-in_err-check_shape : goal.returns-in_err-check_shape
returns-in_err-check_shape c =
    let book = c.args.present.now.book in
    let schedule = c.args.schedule.now in
    reported (shape_rules schedule.timing) (entry_rules book schedule) c.in_err-check_shape.field-0.0
    c.from_residual.result c.from_residual.ensures.1 c.in_err-check_shape.ensures

pub returns : goal.returns
returns c =
    let schedule = c.args.schedule.now in
    reports-past (shape_rules schedule.timing) (entry_rules c.args.present.now.book schedule) c.check_entry.result
    c.in_ok-check_shape.ensures c.check_entry.ensures
