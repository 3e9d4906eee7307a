use Rattle.std.proofs.Common.{subst, ◌∙◌}
use Rattle.book_commodity.specs.Day.{IsDay}
use Rattle.book_commodity.proofs.DayLemmas.{wide_day, date_of_day, date_parts, IsDateOf}
use Rattle.book_commodity.proofs.day.Day.parts.Goals as goal

within : (c : goal.After-struct_known-4-1) → IsDay c.args.self
within c = subst (λ day. IsDay day) c.self.view_is c.self.invariant

parts_of : (c : goal.After-struct_known-4-1) → IsDateOf c.in-Ok.date c.args.self
parts_of c =
    date_parts c.in-Ok.date c.args.self _ (within c) (wide_day _ c.self.invariant ∙ c.self.view_is)
    c.in-Ok.ensures.value

pub returns-clause-year : goal.returns-clause-year
returns-clause-year c = (parts_of c).year

pub returns-clause-month : goal.returns-clause-month
returns-clause-month c = (parts_of c).month

pub returns-clause-day : goal.returns-clause-day
returns-clause-day c = (parts_of c).day_of

pub returns-clause-date : goal.returns-clause-date
returns-clause-date c =
    let p = parts_of c in rw (p.year, p.month, p.day_of) (date_of_day c.args.self (within c)).0
