use Rattle.std.proofs.Common.{◌∙◌}
use Rattle.book_schedule.proofs.MonthLemmas.{last_of_month-numbered}
use Rattle.book_schedule.proofs.month.Month.last.Goals as goal

pub returns : goal.returns
returns c = c.day.ensures ∙ last_of_month-numbered c.args.self
