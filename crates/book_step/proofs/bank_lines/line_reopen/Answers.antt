use Rattle.std.proofs.Common.{[], Ok, Option, refl, sym, subst, ◌∙◌}
use Rattle.book_statement.specs.declared.line.Line.{Line}
use Rattle.book_statement.specs.declared.line_state.LineState.TheVariants.{Open}
use Rattle.book_undo.specs.Book.{with_thing}
use Rattle.book_undo.specs.Edit.{edited}
use Rattle.book_undo.specs.Exact.{IsExact}
use Rattle.book_undo.specs.declared.edit.Edit.{Edit}
use Rattle.book_undo.specs.declared.thing.Thing.TheVariants as thing
use Rattle.book_command.specs.declared.answer.Answer.TheVariants as answer
use Rattle.book_step.specs.BankLines.{in_state, is_open, line_reopen_at}
use Rattle.book_step.specs.Outcome.{StepsTo, changing}
use Rattle.book_step.proofs.ExactBank.{other_state}
use Rattle.book_step.proofs.OutcomeLemmas.{either-changed, either-left}
use Rattle.book_step.proofs.bank_lines.line_reopen.Goals as goal

pub returns-then-is_open : goal.returns-then-is_open
returns-then-is_open c =
    let state = c.args.present.now in
    let line = c.in_ok-line.line.now in
    let later = with_thing c.args.number (thing.Line (in_state line Open)) state.book in
    subst (λ (found : Option Line). StepsTo state (line_reopen_at state c.args.number found) (Ok c.leaving.result))
    (sym c.in_ok-line.ensures.there)
    (either-left state (is_open line.state) [] later 0 answer.LineReopen answer.LineReopen (Ok c.leaving.result) refl
    (sym c.is_open.ensures ∙ c.if-is_open.true) (c.leaving.ensures answer.LineReopen refl))

pub changing-requires-clause-exact : goal.changing-requires-clause-exact
changing-requires-clause-exact c sound =
    let state = c.args.present.now in
    let line = c.in_ok-line.line.now in
    let closed = sym c.is_open.ensures ∙ c.if-is_open.false in
    subst (λ (e : Edit). IsExact state.book e) (sym c.in_ok-edit.ensures)
    (other_state state c.args.number line Open sound c.in_ok-line.ensures.there
    (λ same. absurd (let both = same ∙ closed in cc)))

pub returns : goal.returns
returns c =
    let state = c.args.present.now in
    let line = c.in_ok-line.line.now in
    let later = with_thing c.args.number (thing.Line (in_state line Open)) state.book in
    subst (λ (found : Option Line). StepsTo state (line_reopen_at state c.args.number found) c.changing.result)
    (sym c.in_ok-line.ensures.there)
    (either-changed state (is_open line.state) [] later 0 answer.LineReopen answer.LineReopen c.changing.result refl
    (sym c.is_open.ensures ∙ c.if-is_open.false)
    (subst (λ (e : Edit). StepsTo state (changing state [] (edited e state.book) 0 answer.LineReopen)
    c.changing.result)
    c.in_ok-edit.ensures (c.changing.ensures answer.LineReopen refl)))
