use Rattle.std.proofs.Common.{Option, IfOk, IfErr, sym, ap, ◌∙◌, subst}
use Rattle.book_command.specs.declared.answer.Answer.{Answer}
use Rattle.book_command.specs.declared.answer.Answer.TheVariants as answer
use Rattle.book_command.specs.declared.command.What.{What}
use Rattle.book_command.specs.declared.rule.Rule.{Rule}
use Rattle.book_command.specs.Rates.{rate_on}
use Rattle.book_opening.specs.State.{state_of}
use Rattle.book_step.specs.BankLines.{account_asked, lines_of, statements_of}
use Rattle.book_step.specs.Reconciling.{recons_of}
use Rattle.book_step.specs.Voiding.{voided_of}
use Rattle.book_engine.specs.Books.{machine_of}
use Rattle.book_engine.specs.Machine.{Done, reply, unless_broken}
use Rattle.book_engine.specs.Planned.{IsPlanTo, IsRefusal, Planned}
use Rattle.book_engine.proofs.AskLemmas.{found-planned, found-refused}
use Rattle.book_engine.proofs.DueLemmas.{due-planned, due-refused}
use Rattle.book_engine.proofs.PlanLemmas.{is_stay_plan}
use Rattle.book_engine.proofs.planning.plan_at.Goals as goal

pub returns-in-Status-clause-planned : goal.returns-in-Status-clause-planned
returns-in-Status-clause-planned c =
    let state = state_of c.args.state.now in
    let comes = reply (machine_of state) c.args.what in
    subst (λ (p : Planned). IsPlanTo state c.args.saved comes p) (sym c.plan_stay-in-Status.ensures)
    (is_stay_plan state c.args.saved c.status.result comes c.requires.whole
    (ap (reply (machine_of state)) c.in-Status.is
    ∙ ap (λ (a : Answer). Done (machine_of state) a) (sym c.status.ensures)))

pub returns-in-Ok-clause-planned : goal.returns-in-Ok-clause-planned
returns-in-Ok-clause-planned c =
    let state = state_of c.args.state.now in
    let machine = machine_of state in
    let comes = reply machine c.args.what in
    let rate = rate_on state.book.prices c.in-Price.commodity c.in-Price.currency c.in-Price.day in
    subst (λ (p : Planned). IsPlanTo state c.args.saved comes p) (sym c.plan_stay.ensures)
    (is_stay_plan state c.args.saved c.in-Ok.answer comes c.requires.whole
    (ap (reply machine) c.in-Price.is
    ∙ ap (λ (found : Option Rule). unless_broken found (Done machine (answer.Price rate))) c.in-Ok.ensures.rules
    ∙ ap (λ (a : Answer). Done machine a) (sym c.in-Ok.ensures.answer)))

pub returns-in-Due-clause-planned : goal.returns-in-Due-clause-planned
returns-in-Due-clause-planned c =
    let state = state_of c.args.state.now in
    subst (λ (w : What). IfOk c.plan_due.result (IsPlanTo state c.args.saved (reply (machine_of state) w)))
    (sym c.in-Due.is)
    (due-planned state c.args.saved c.in-Due.upto c.plan_due.result c.requires.whole c.plan_due.ensures)

pub returns-in-Due-clause-refused : goal.returns-in-Due-clause-refused
returns-in-Due-clause-refused c =
    let state = state_of c.args.state.now in
    subst (λ (w : What). IfErr c.plan_due.result (IsRefusal (reply (machine_of state) w))) (sym c.in-Due.is)
    (due-refused state c.in-Due.upto c.plan_due.result c.plan_due.ensures)

pub returns-in-Lines-clause-planned : goal.returns-in-Lines-clause-planned
returns-in-Lines-clause-planned c =
    let state = state_of c.args.state.now in
    let account = c.in-Lines.account in
    subst (λ (w : What). IfOk c.plan_lines.result (IsPlanTo state c.args.saved (reply (machine_of state) w)))
    (sym c.in-Lines.is)
    (found-planned state c.args.saved (account_asked state.book account)
    (answer.Lines (lines_of account state.book.lines)) c.plan_lines.result c.requires.whole c.plan_lines.ensures)

pub returns-in-Lines-clause-refused : goal.returns-in-Lines-clause-refused
returns-in-Lines-clause-refused c =
    let state = state_of c.args.state.now in
    let account = c.in-Lines.account in
    subst (λ (w : What). IfErr c.plan_lines.result (IsRefusal (reply (machine_of state) w))) (sym c.in-Lines.is)
    (found-refused state (account_asked state.book account) (answer.Lines (lines_of account state.book.lines))
    c.plan_lines.result c.plan_lines.ensures)

pub returns-in-Statements-clause-planned : goal.returns-in-Statements-clause-planned
returns-in-Statements-clause-planned c =
    let state = state_of c.args.state.now in
    let account = c.in-Statements.account in
    subst (λ (w : What). IfOk c.plan_statements.result (IsPlanTo state c.args.saved (reply (machine_of state) w)))
    (sym c.in-Statements.is)
    (found-planned state c.args.saved (account_asked state.book account)
    (answer.Statements (statements_of account state.book.statements)) c.plan_statements.result c.requires.whole
    c.plan_statements.ensures)

pub returns-in-Statements-clause-refused : goal.returns-in-Statements-clause-refused
returns-in-Statements-clause-refused c =
    let state = state_of c.args.state.now in
    let account = c.in-Statements.account in
    subst (λ (w : What). IfErr c.plan_statements.result (IsRefusal (reply (machine_of state) w)))
    (sym c.in-Statements.is)
    (found-refused state (account_asked state.book account)
    (answer.Statements (statements_of account state.book.statements)) c.plan_statements.result
    c.plan_statements.ensures)

pub returns-in-Voided-clause-planned : goal.returns-in-Voided-clause-planned
returns-in-Voided-clause-planned c =
    let state = state_of c.args.state.now in
    let account = c.in-Voided.account in
    subst (λ (w : What). IfOk c.plan_voided.result (IsPlanTo state c.args.saved (reply (machine_of state) w)))
    (sym c.in-Voided.is)
    (found-planned state c.args.saved (account_asked state.book account)
    (answer.Voided (voided_of account state.book.transactions)) c.plan_voided.result c.requires.whole
    c.plan_voided.ensures)

pub returns-in-Voided-clause-refused : goal.returns-in-Voided-clause-refused
returns-in-Voided-clause-refused c =
    let state = state_of c.args.state.now in
    let account = c.in-Voided.account in
    subst (λ (w : What). IfErr c.plan_voided.result (IsRefusal (reply (machine_of state) w))) (sym c.in-Voided.is)
    (found-refused state (account_asked state.book account)
    (answer.Voided (voided_of account state.book.transactions)) c.plan_voided.result c.plan_voided.ensures)

pub returns-in-Recons-clause-planned : goal.returns-in-Recons-clause-planned
returns-in-Recons-clause-planned c =
    let state = state_of c.args.state.now in
    let account = c.in-Recons.account in
    subst (λ (w : What). IfOk c.plan_recons.result (IsPlanTo state c.args.saved (reply (machine_of state) w)))
    (sym c.in-Recons.is)
    (found-planned state c.args.saved (account_asked state.book account)
    (answer.Recons (recons_of account state.book)) c.plan_recons.result c.requires.whole c.plan_recons.ensures)

pub returns-in-Recons-clause-refused : goal.returns-in-Recons-clause-refused
returns-in-Recons-clause-refused c =
    let state = state_of c.args.state.now in
    let account = c.in-Recons.account in
    subst (λ (w : What). IfErr c.plan_recons.result (IsRefusal (reply (machine_of state) w))) (sym c.in-Recons.is)
    (found-refused state (account_asked state.book account) (answer.Recons (recons_of account state.book))
    c.plan_recons.result c.plan_recons.ensures)
