use Rattle.std.proofs.Common.{◌≡◌, ℤ, subst}
use Rattle.std.specs.Prelude.{IsSome, IfSome, ◌↔◌}
use Rattle.book_commodity.specs.Day.{IsDay}
use Rattle.book_commodity.proofs.DayLemmas.{months_later-parts}
use Rattle.book_commodity.proofs.day.Day.add_months_clipped.Goals as goal

pub returns-clause-some : goal.returns-clause-some
returns-clause-some c =
    let p = c.parts-year.ensures in
    let e = months_later-parts c.args.self _ c.args.months _ _ _ p.year p.date.0 c.unsigned_abs.ensures.value p.month
    p.day in
    subst (λ (day : ℤ). IsSome c.clipped.result ↔ IsDay day) e c.clipped.ensures.some

pub returns-clause-day : goal.returns-clause-day
returns-clause-day c =
    let p = c.parts-year.ensures in
    let e = months_later-parts c.args.self _ c.args.months _ _ _ p.year p.date.0 c.unsigned_abs.ensures.value p.month
    p.day in
    subst (λ (day : ℤ). IfSome c.clipped.result (λ found. found ≡ day)) e c.clipped.ensures.day
