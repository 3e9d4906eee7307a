use Rattle.std.proofs.Common.{arith, pos}
use Rattle.std.proofs.lemmas.Int.{ints}
use Rattle.jiff_core.proofs.CalendarLemmas.{days_in_month_bounds}
use Rattle.book_commodity.specs.Day.{clipped_day}
use Rattle.book_commodity.proofs.DayLemmas.{later_year_is_no_day}
use Rattle.book_commodity.proofs.day.Day.clipped.Goals as goal

pub returns-then-year-gt2199-clause-some : goal.returns-then-year-gt2199-clause-some
unfolding clipped_day
returns-then-year-gt2199-clause-some c =
    let size = days_in_month_bounds (pos c.args.year) c.args.month in (
      λ e. absurd cc,
      λ h. absurd
          (later_year_is_no_day _ _ _ (omega (arith, ints)) (omega (arith, size, c.requires.day)) h),
    )
