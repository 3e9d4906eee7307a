use Rattle.std.proofs.Common.{◌∙◌}
use Rattle.book_commodity.proofs.DayTextLemmas.{text_is}
use Rattle.book_commodity.proofs.day.Day.text.Goals as goal

pub returns : goal.returns
returns c =
    let p = c.parts-year.ensures in
    c.text_of_date.ensures ∙ text_is c.args.self _ _ _ _ p.year p.date.0 c.unsigned_abs.ensures.value p.month p.day
