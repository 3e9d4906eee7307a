use Rattle.std.proofs.Common.{sym, ◌∙◌, arith}
use Rattle.std.proofs.lemmas.Int.{ints}
use Rattle.mt940_read.proofs.CheckedLemmas.{room_full, room_left}
use Rattle.mt940_read.proofs.checks.check_room.Goals as goal

pub returns-then-not-has_room_for_line : goal.returns-then-not-has_room_for_line
returns-then-not-has_room_for_line c =
    room_full c.args.page.now c.args.last_lines c.args.message.now (sym c.has_room_for_line.ensures
    ∙ c.if-not-has_room_for_line.true)

pub returns : goal.returns
returns c = (
  room_left c.args.page.now c.args.last_lines c.args.message.now (sym c.has_room_for_line.ensures
      ∙ c.if-not-has_room_for_line.false),
  omega (arith, ints),
)
