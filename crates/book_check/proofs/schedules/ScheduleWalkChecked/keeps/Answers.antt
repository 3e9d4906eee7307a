-- A schedule is kept whatever its number.
use Rattle.book_sound.specs.ScheduleRules.{schedule_rules}
use Rattle.book_check.proofs.SeenLemmas.{kept_alone}
use Rattle.book_check.proofs.schedules.ScheduleWalkChecked.keeps.Goals as goal

pub returns-clause-kept : goal.returns-clause-kept
returns-clause-kept c =
    let walk = c.args.self.now in
    kept_alone (schedule_rules walk.commodities.now.entries walk.accounts.now.entries) walk.schedules.now.entries
    c.args.place c.value_at-schedule.result.now c.keeps_rules.result c.value_at-schedule.ensures
    (λ n _. c.keeps_rules.ensures n)
