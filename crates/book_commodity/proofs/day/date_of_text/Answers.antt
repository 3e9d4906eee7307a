use Rattle.book_commodity.proofs.DayTextLemmas.{spelled}
use Rattle.book_commodity.proofs.day.date_of_text.Goals as goal

pub returns-clause-found : goal.returns-clause-found
returns-clause-found c =
    let century = c.in_ok-century.ensures.found in
    let year = c.in_ok-year.ensures.found in
    let month = c.in_ok-month.ensures.found in
    let day = c.in_ok-day.ensures.found in
    spelled c.args.text.now _ _ _ _ c.if-text-ne10.false century.0 century.1 year.0 year.1 c.if-text-ne45.false
    month.0 month.1 c.if-text-ne45-2.false day.0 day.1
