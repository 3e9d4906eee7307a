use Rattle.std.proofs.Common.{arith}
use Rattle.std.proofs.lemmas.Int.{ints}
use Rattle.book_commodity.proofs.DayTextLemmas.{spells_no_day, day_spelled, no_day_spelled}
use Rattle.book_commodity.proofs.day.Day.of_text.Goals as goal

pub returns-in_err-year-clause-none : goal.returns-in_err-year-clause-none
returns-in_err-year-clause-none c =
    rw c.from_residual.ensures (spells_no_day c.args.text.now c.in_err-year.ensures.none)

pub returns-clause-day : goal.returns-clause-day
returns-clause-day c =
    let date = c.in_ok-year in
    let spelled = c.in_ok-year.ensures.found in
    day_spelled c.args.text.now (date.year, date.month, date.day) _ c.of_parts.result spelled
    (omega (arith, ints, spelled.0)) c.of_parts.ensures.some c.of_parts.ensures.day

pub returns-clause-none : goal.returns-clause-none
returns-clause-none c =
    let date = c.in_ok-year in
    let spelled = c.in_ok-year.ensures.found in
    no_day_spelled c.args.text.now (date.year, date.month, date.day) _ c.of_parts.result spelled
    (omega (arith, ints, spelled.0)) c.of_parts.ensures.some
