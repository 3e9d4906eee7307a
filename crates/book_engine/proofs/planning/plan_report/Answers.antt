use Rattle.std.proofs.Common.{Option, sym, ap, ◌∙◌, subst}
use Rattle.book_command.specs.declared.answer.Answer.{Answer}
use Rattle.book_command.specs.declared.rule.Rule.{Rule}
use Rattle.book_opening.specs.State.{state_of}
use Rattle.book_report_answers.specs.Reports.{report_answer, report_rules}
use Rattle.book_engine.specs.Books.{machine_of}
use Rattle.book_engine.specs.Machine.{Done, asked, unless_broken}
use Rattle.book_engine.specs.Planned.{IsPlanTo, Planned}
use Rattle.book_engine.proofs.PlanLemmas.{is_stay_plan}
use Rattle.book_engine.proofs.planning.plan_report.Goals as goal

pub returns-clause-planned : goal.returns-clause-planned
returns-clause-planned c =
    let state = state_of c.args.state.now in
    let machine = machine_of state in
    let rules = report_rules state.book c.args.report.now in
    let given = report_answer state.book c.args.report.now in
    let comes = asked machine rules given in
    subst (λ (p : Planned). IsPlanTo state c.args.saved comes p) (sym c.plan_stay.ensures)
    (is_stay_plan state c.args.saved c.in_ok-answer.answer comes c.requires.whole
    (ap (λ (found : Option Rule). unless_broken found (Done machine given)) c.in_ok-answer.ensures.rules
    ∙ ap (λ (a : Answer). Done machine a) (sym c.in_ok-answer.ensures.answer)))
