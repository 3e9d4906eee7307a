use Rattle.std.proofs.Common.{arith}
use Rattle.std.proofs.lemmas.Int.{ints}
use Rattle.book_commodity.proofs.DayLemmas.{book_date_is_day}
use Rattle.book_commodity.proofs.day.Day.of_parts.Goals as goal

pub invariant_of-result : goal.invariant_of-result
invariant_of-result c =
    let date = c.in-Ok.date in
    let named = c.in-Ok.ensures.value in
    let own = book_date_is_day date.year date.month date.day
    ((omega (arith, ints), omega (arith, ints)), (date.year_in, date.month_in, date.day_in)) in
    omega (arith, ints, own, c.to_unix_epoch_day.ensures.value)
