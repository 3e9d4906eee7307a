use Rattle.std.proofs.Common.{ℕ, List, [], Ok, sym, ap, ◌∙◌}
use Rattle.book_command.specs.declared.answer.Answer.TheVariants as answer
use Rattle.book_step.specs.ScheduleRuns.{asked, asked_rules}
use Rattle.book_step.specs.Schedules.{runs_of}
use Rattle.book_step.proofs.RunWalkLemmas.{found-runs, run-left, run-refused}
use Rattle.book_step.proofs.schedule_runs.schedule_run.Goals as goal

pub returns-in-Err : goal.returns-in-Err
returns-in-Err c =
    run-refused c.args.present.now c.args.upto c.args.only c.in-Err.refusal c.in-Err.ensures

pub returns-then-is_empty : goal.returns-then-is_empty
returns-then-is_empty c =
    let state = c.args.present.now in
    run-left state (asked_rules state c.args.upto c.args.only)
    (runs_of c.args.upto (asked c.args.only state.book.schedules))
    (Ok c.leaving.result) (sym c.in-Ok.ensures.1 ∙ c.is_empty.ensures.0 c.if-is_empty.true) c.in-Ok.ensures.0
    (c.leaving.ensures (answer.ScheduleRun [])
    (ap (λ (numbers : List ℕ). answer.ScheduleRun numbers) (sym c.new.ensures)))

pub run_all-requires-clause-runs : goal.run_all-requires-clause-runs
run_all-requires-clause-runs c sound =
    (found-runs c.args.present.now c.args.upto c.args.only c.in-Ok.runs c.as_slice.result.now c.as_slice.ensures
    c.in-Ok.ensures.1 sound).0

pub run_all-requires-clause-rise : goal.run_all-requires-clause-rise
run_all-requires-clause-rise c sound =
    (found-runs c.args.present.now c.args.upto c.args.only c.in-Ok.runs c.as_slice.result.now c.as_slice.ensures
    c.in-Ok.ensures.1 sound).1
