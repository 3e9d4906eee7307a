use Rattle.book_statement.proofs.CheckLemmas.{first_bad-here, tells-past}
use Rattle.mt940_read.specs.Balances.{balance_form}
use Rattle.mt940_read.specs.FieldChecks.{later_checks}
use Rattle.mt940_read.proofs.checks.check_later.Goals as goal

pub returns-in-Err : goal.returns-in-Err
unfolding later_checks
returns-in-Err c = first_bad-here (balance_form c.args.text.now) _ c.in-Err.bad c.in-Err.ensures

pub returns-in-Ok : goal.returns-in-Ok
unfolding later_checks
returns-in-Ok c = tells-past (balance_form c.args.text.now) _ _ c.check_later_currency.result c.in-Ok.ensures.0
    c.check_later_currency.ensures
