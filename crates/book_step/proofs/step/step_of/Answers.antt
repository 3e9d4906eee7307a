use Rattle.std.proofs.Common.{subst}
use Rattle.book_command.specs.declared.command.Update.{Update}
use Rattle.book_step.specs.Outcome.{StepsTo}
use Rattle.book_step.specs.State.{state_of}
use Rattle.book_step.specs.Step.{outcome}
use Rattle.book_step.proofs.ImportLaws.{step-leaves}
use Rattle.book_step.proofs.KeepLaws.{step-keeps-lines, step-keeps-statements}
use Rattle.book_step.proofs.step.step_of.Goals as goal

pub returns-clause-lines : goal.returns-clause-lines
returns-clause-lines c =
    step-keeps-lines (state_of c.args.plain.now c.args.next c.args.version) c.args.update c.step_at.result
    c.step_at.ensures

pub returns-clause-statements : goal.returns-clause-statements
returns-clause-statements c =
    step-keeps-statements (state_of c.args.plain.now c.args.next c.args.version) c.args.update c.step_at.result
    c.step_at.ensures

pub returns-clause-leaves : goal.returns-clause-leaves
returns-clause-leaves c format text given is there =
    let state = state_of c.args.plain.now c.args.next c.args.version in
    step-leaves state format text given c.step_at.result
    (subst (λ (update : Update). StepsTo state (outcome state update) c.step_at.result) is c.step_at.ensures) there
