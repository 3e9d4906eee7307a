use Rattle.std.proofs.Common.{arith, rules}
use Rattle.book_commodity.specs.Day.{IsDay, month_count}
use Rattle.book_schedule.proofs.MonthLemmas.{no_day_past}
use Rattle.book_schedule.proofs.OccurrenceLemmas.{end_of_month_in}
use Rattle.book_schedule.proofs.occurrences.end_of_month.Goals as goal

pub returns-in_err-month-clause-some : goal.returns-in_err-month-clause-some
returns-in_err-month-clause-some c =
    let within : IsDay c.args.start = search rules in
    let month = c.of.ensures.month in
    no_day_past _ c.of.result c.args.months (month_count c.args.start c.args.months) _ c.from_residual.ensures
    c.in_err-month.ensures.some.1 (omega arith) (end_of_month_in _)
