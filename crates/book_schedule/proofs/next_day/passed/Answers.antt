use Rattle.book_schedule.proofs.NextLemmas.{passed_daily, passed_weekly, passed_monthly, passed_yearly, nothing_passed}
use Rattle.book_schedule.proofs.next_day.passed.Goals as goal

pub returns-in-Once-clause-passed : goal.returns-in-Once-clause-passed
returns-in-Once-clause-passed c = nothing_passed _ _

pub returns-in-Daily-clause-passed : goal.returns-in-Daily-clause-passed
returns-in-Daily-clause-passed c =
    passed_daily c.args.recurrence.now c.args.after.now _ c.in-Daily.is c.requires.0 c.days_before-days.ensures.days

pub returns-in-Weekly-clause-passed : goal.returns-in-Weekly-clause-passed
returns-in-Weekly-clause-passed c =
    passed_weekly c.args.recurrence.now c.args.after.now _ c.in-Weekly.is c.requires.0 c.days_before-days.ensures.days

pub returns-in-Yearly-clause-passed : goal.returns-in-Yearly-clause-passed
returns-in-Yearly-clause-passed c =
    passed_yearly c.args.recurrence.now c.args.after.now _ c.days_before-days.ensures.start c.requires.0
    c.in-Yearly.is c.months_before-months.ensures

pub returns-in_default-clause-passed : goal.returns-in_default-clause-passed
returns-in_default-clause-passed c =
    let kind = c.in_default in
    passed_monthly c.args.recurrence.now c.args.after.now _ c.days_before-days.ensures.start c.requires.0
    kind.not-Once kind.not-Daily kind.not-Weekly kind.not-Yearly c.months_before-months.ensures
