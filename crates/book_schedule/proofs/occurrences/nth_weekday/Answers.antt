use Rattle.std.proofs.Common.{◌≡◌, ap, ◌∙◌, arith, rules}
use Rattle.std.proofs.lemmas.Int.{ints}
use Rattle.jiff_core.proofs.CalendarLemmas.{weekday_number_bound}
use Rattle.book_commodity.specs.Day.{IsDay, month_count}
use Rattle.book_schedule.specs.Recurrence.{first_of_month, weekday_from}
use Rattle.book_schedule.proofs.MonthLemmas.{no_day_past, some_along}
use Rattle.book_schedule.proofs.OccurrenceLemmas.{early_day, nth_weekday_in}
use Rattle.book_schedule.proofs.occurrences.nth_weekday.Goals as goal

pub returns-in_err-month-clause-some : goal.returns-in_err-month-clause-some
returns-in_err-month-clause-some c =
    let within : IsDay c.args.start = search rules in
    let month = c.of.ensures.month in
    no_day_past _ c.of.result c.args.months (month_count c.args.start c.args.months) _ c.from_residual.ensures
    c.in_err-month.ensures.some.1 (omega arith) (nth_weekday_in c.args.start _)

pub returns-clause-some : goal.returns-clause-some
unfolding weekday_from
returns-clause-some c =
    let month : c.in_ok-month.month ≡ month_count c.args.start c.args.months =
    omega (arith, c.of.ensures.month, c.in_ok-month.ensures.month) in
    let first : c.first-first.result ≡ first_of_month (month_count c.args.start c.args.months) = c.first-first.ensures
    ∙ ap first_of_month month in
    let test = early_day c.args.start _ c.parts-number.ensures.day c.if-number-gt28.false in
    let week = weekday_number_bound c.first-first.result in
    some_along _ _ _ c.plus.ensures.some
    (rw (test, ← first) (omega (arith, ints, week, c.from.ensures, c.weekday.ensures, c.weekday-2.ensures)))
