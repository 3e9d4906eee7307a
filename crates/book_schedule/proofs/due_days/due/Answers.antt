use Rattle.std.proofs.Common.{sym, subst, arith}
use Rattle.book_schedule.specs.DueDays.{IsDue, Lists}
use Rattle.book_schedule.proofs.DueLemmas.{due_days, too_many}
use Rattle.book_schedule.proofs.due_days.due.Goals as goal

pub returns-then-len-gt-MOST_DAYS-clause-limit : goal.returns-then-len-gt-MOST_DAYS-clause-limit
returns-then-len-gt-MOST_DAYS-clause-limit c =
    λ _. too_many c.args.timing.now c.args.upto _ c.in_ok-days.days.items c.kept_at_most.ensures c.in_ok-days.ensures
    (omega (arith, c.len.ensures))

pub returns-clause-days : goal.returns-clause-days
returns-clause-days c =
    subst (Lists (IsDue c.args.timing.now c.args.upto)) (sym c.of.ensures)
    (due_days c.args.timing.now c.args.upto _ c.in_ok-days.days.items c.kept_at_most.ensures c.in_ok-days.ensures
    (omega (arith, c.len.ensures)))
