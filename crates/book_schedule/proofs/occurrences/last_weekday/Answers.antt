use Rattle.std.proofs.Common.{◌≡◌, ap, ◌∙◌, arith, rules}
use Rattle.std.proofs.lemmas.Int.{ints}
use Rattle.jiff_core.proofs.CalendarLemmas.{weekday_number_bound}
use Rattle.book_commodity.specs.Day.{IsDay, month_count}
use Rattle.book_schedule.specs.Recurrence.{last_of_month, weekday_up_to}
use Rattle.book_schedule.proofs.MonthLemmas.{no_day_past, some_along}
use Rattle.book_schedule.proofs.OccurrenceLemmas.{last_weekday_in}
use Rattle.book_schedule.proofs.occurrences.last_weekday.Goals as goal

pub returns-in_err-later-clause-some : goal.returns-in_err-later-clause-some
returns-in_err-later-clause-some c =
    let within : IsDay c.args.start = search rules in
    let month = c.of.ensures.month in
    no_day_past _ c.of.result c.args.months (month_count c.args.start c.args.months) _ c.from_residual.ensures
    c.in_err-later.ensures.some.1 (omega arith) (last_weekday_in c.args.start _)

pub returns-clause-some : goal.returns-clause-some
unfolding weekday_up_to
returns-clause-some c =
    let month : c.in_ok-later.field-0 ≡ month_count c.args.start c.args.months =
    omega (arith, c.of.ensures.month, c.in_ok-later.ensures.month) in
    let last : c.last-last.result ≡ last_of_month (month_count c.args.start c.args.months) = c.last-last.ensures
    ∙ ap last_of_month month in
    let week = weekday_number_bound c.args.start in
    some_along _ _ _ c.plus.ensures.some
    (rw (← last) (omega (arith, ints, week, c.from.ensures, c.weekday.ensures, c.weekday-2.ensures)))
