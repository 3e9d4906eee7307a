use Rattle.book_statement.proofs.CheckLemmas.{first_bad-here, tells-past}
use Rattle.mt940_read.specs.LineField.{line_form}
use Rattle.mt940_read.specs.FieldChecks.{line_checks}
use Rattle.mt940_read.proofs.checks.check_line.Goals as goal

pub returns-in-Err : goal.returns-in-Err
unfolding line_checks
returns-in-Err c = first_bad-here (line_form c.args.text.now) _ c.in-Err.bad c.in-Err.ensures

pub returns-in-Ok : goal.returns-in-Ok
unfolding line_checks
returns-in-Ok c = tells-past (line_form c.args.text.now) _ _ c.check_line_amount.result c.in-Ok.ensures.0
    c.check_line_amount.ensures
