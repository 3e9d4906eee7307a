use Rattle.std.proofs.Common.{[], ◌∷◌, Option, not, refl, sym, ap, subst, ◌∙◌}
use Rattle.book_statement.specs.declared.line.Line.{Line}
use Rattle.book_statement.specs.declared.line_state.LineState.TheVariants.{Dismissed}
use Rattle.book_undo.specs.Book.{with_thing}
use Rattle.book_undo.specs.Edit.{edited}
use Rattle.book_undo.specs.Exact.{IsExact}
use Rattle.book_undo.specs.declared.edit.Edit.{Edit}
use Rattle.book_undo.specs.declared.thing.Thing.TheVariants as thing
use Rattle.book_command.specs.declared.answer.Answer.TheVariants as answer
use Rattle.book_command.specs.declared.rule.Rule.TheVariants.{LineTaken}
use Rattle.book_step.specs.BankLines.{in_state, is_open, line_dismiss_at, line_taken}
use Rattle.book_step.specs.Outcome.{StepsTo, changing}
use Rattle.book_step.proofs.ExactBank.{other_state}
use Rattle.book_step.proofs.OutcomeLemmas.{only_kept, past-changing}
use Rattle.book_step.proofs.bank_lines.line_dismiss.Goals as goal

pub changing-requires-clause-exact : goal.changing-requires-clause-exact
changing-requires-clause-exact c sound =
    let state = c.args.present.now in
    let line = c.in_ok-line.line.now in
    let stays = only_kept (not (is_open line.state)) (LineTaken c.args.number) c.in_ok-check_open.ensures in
    subst (λ (e : Edit). IsExact state.book e) (sym c.in_ok-edit.ensures)
    (other_state state c.args.number line Dismissed sound c.in_ok-line.ensures.there
    (λ same. absurd (let both = ap not same ∙ stays in cc)))

pub returns : goal.returns
returns c =
    let state = c.args.present.now in
    let line = c.in_ok-line.line.now in
    let later = with_thing c.args.number (thing.Line (in_state line Dismissed)) state.book in
    subst (λ (found : Option Line). StepsTo state (line_dismiss_at state c.args.number found) c.changing.result)
    (sym c.in_ok-line.ensures.there)
    (past-changing state (line_taken c.args.number line ∷ []) later 0 answer.LineDismiss c.changing.result
    c.in_ok-check_open.ensures
    (subst (λ (e : Edit). StepsTo state (changing state [] (edited e state.book) 0 answer.LineDismiss)
    c.changing.result)
    c.in_ok-edit.ensures (c.changing.ensures answer.LineDismiss refl)))
