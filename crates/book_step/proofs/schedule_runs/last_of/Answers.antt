use Rattle.std.proofs.Common.{sym}
use Rattle.book_step.proofs.RunWalkLemmas.{last-is}
use Rattle.book_step.proofs.schedule_runs.last_of.Goals as goal

pub returns-in-Some : goal.returns-in-Some
returns-in-Some c = sym (last-is c.args.given c.args.days.now c.in-Some.day.now (sym c.in-Some.ensures.value))
