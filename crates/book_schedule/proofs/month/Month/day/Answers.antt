use Rattle.std.proofs.Common.{◌/◌, ◌%◌, ◌+◌, arith, to_z, w16, w32}
use Rattle.std.proofs.lemmas.Int.{ints}
use Rattle.book_schedule.proofs.MonthLemmas.{numbered_day-parts}
use Rattle.book_schedule.proofs.month.Month.day.Goals as goal

pub returns : goal.returns
returns c =
    let same = c.self.view_is in
    let within = c.self.invariant in
    let n = c.self.inside.number in
    numbered_day-parts _ (to_z w32 (n / 12)) (to_z w16 (n / 12)) c.args.self c.args.number (n % 12 + 1)
    (n % 12 + 1) _ _ c.in-Some.ensures.day c.days_in_month-last.ensures.value c.min.ensures (omega (arith, ints))
    (omega (arith, ints)) (omega arith) (omega arith)
