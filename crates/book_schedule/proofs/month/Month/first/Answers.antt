use Rattle.std.proofs.Common.{◌∙◌}
use Rattle.book_schedule.proofs.MonthLemmas.{first_of_month-numbered}
use Rattle.book_schedule.proofs.month.Month.first.Goals as goal

pub returns : goal.returns
returns c = c.day.ensures ∙ first_of_month-numbered c.args.self
