use Rattle.std.proofs.Common.{arith, to_z, of_z, w64}
use Rattle.std.proofs.lemmas.Int.{ints}
use Rattle.book_statement.proofs.CheckLemmas.{first_bad-here, tells-past}
use Rattle.mt940_read.specs.Balances.{balance}
use Rattle.mt940_read.specs.FieldChecks.{closing_checks, later_checks, reckoned_checks}
use Rattle.mt940_read.proofs.CheckedLemmas.{reckoned_at}
use Rattle.mt940_read.proofs.checks.check_closing.Goals as goal

pub returns-in-Err : goal.returns-in-Err
unfolding closing_checks
returns-in-Err c = first_bad-here (later_checks c.args.known.now.entries c.args.message.now c.args.text.now) _
    c.in-Err.bad c.in-Err.ensures

pub returns-in-Ok : goal.returns-in-Ok
unfolding closing_checks
returns-in-Ok c =
    let closing = balance c.args.message.now.fraction c.args.text.now in
    tells-past (later_checks c.args.known.now.entries c.args.message.now c.args.text.now)
    (reckoned_checks c.args.message.now closing) closing c.check_reckoned.result c.in-Ok.ensures.0
    (reckoned_at c.args.message.now (to_z w64 (of_z w64 c.in-Ok.closing)) closing c.check_reckoned.result
    (omega (arith, ints, c.in-Ok.ensures.1)) c.check_reckoned.ensures)
