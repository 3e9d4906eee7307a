use Rattle.std.proofs.Common.{arith, to_z, of_z, w64}
use Rattle.std.proofs.lemmas.Int.{ints}
use Rattle.book_statement.proofs.CheckLemmas.{first_bad-here, tells-past}
use Rattle.mt940_read.specs.Amounts.{amount_checks}
use Rattle.mt940_read.specs.FieldChecks.{line_amount_checks, room_checks}
use Rattle.mt940_read.specs.LineField.{amount_part, line_amount}
use Rattle.mt940_read.proofs.AnswerLemmas.{tells-same}
use Rattle.mt940_read.proofs.checks.check_line_amount.Goals as goal

pub returns-in-Err : goal.returns-in-Err
unfolding line_amount_checks
returns-in-Err c = first_bad-here (amount_checks c.args.message.now.fraction (amount_part c.args.text.now)) _
    c.in-Err.bad c.in-Err.ensures

pub returns-in-Ok : goal.returns-in-Ok
unfolding line_amount_checks
returns-in-Ok c =
    tells-past (amount_checks c.args.message.now.fraction (amount_part c.args.text.now))
    (room_checks c.args.page.now c.args.last_lines c.args.message.now)
    (line_amount c.args.message.now.fraction c.args.text.now) c.check_room.result c.in-Ok.ensures.0
    (tells-same (room_checks c.args.page.now c.args.last_lines c.args.message.now)
    (to_z w64 (of_z w64 c.in-Ok.amount)) (line_amount c.args.message.now.fraction c.args.text.now)
    c.check_room.result (omega (arith, ints, c.in-Ok.ensures.1)) c.check_room.ensures)
