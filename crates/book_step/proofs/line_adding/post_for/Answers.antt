use Rattle.std.proofs.Common.{ℕ, ◌+◌, List, map, sym, ap, subst, ◌∙◌}
use Rattle.book_splits.specs.declared.split.Split.{Split}
use Rattle.book_undo.specs.Edit.{is_nothing}
use Rattle.book_undo.specs.Exact.{IsExact}
use Rattle.book_undo.specs.declared.edit.Edit.{Edit}
use Rattle.book_step.specs.LineAdding.{matched_answer, matching_edit}
use Rattle.book_step.specs.State.{State}
use Rattle.book_command.specs.declared.answer.Answer.TheVariants as answer
use Rattle.book_step.proofs.ExactLines.{matching_changes, matching_exact}
use Rattle.book_step.proofs.LineAddingLemmas.{matched-changed}
use Rattle.book_step.proofs.line_adding.post_for.Goals as goal

pub returns : goal.returns
returns c =
    let state = c.args.present.now in
    let number = c.present.inside.next in
    let short = c.in_ok-answer.ensures
    ∙ ap (λ (splits : List Split). answer.LineAdd number (map (λ split. split.id) splits)) c.as_slice.ensures in
    matched-changed state number c.args.number c.args.line.now c.args.transaction (1 + c.len.result)
    c.in_ok-edit.edit c.changing.result (ap (λ (s : State). s.next) c.present.view_is)
    (ap (λ (n : ℕ). 1 + n) c.len.ensures) c.in_ok-edit.ensures
    (c.changing.ensures (matched_answer number c.args.transaction) (sym short))

pub changing-requires-clause-changes : goal.changing-requires-clause-changes
changing-requires-clause-changes c =
    ap is_nothing c.in_ok-edit.ensures
    ∙ matching_changes c.present.inside.next c.args.transaction c.args.number c.args.line.now

pub changing-requires-clause-exact : goal.changing-requires-clause-exact
changing-requires-clause-exact c sound =
    let state = c.args.present.now in
    let next = ap (λ (s : State). s.next) c.present.view_is in
    let made = c.in_ok-edit.ensures
    ∙ ap (λ (n : ℕ). matching_edit n c.args.transaction c.args.number c.args.line.now) next in
    subst (λ (e : Edit). IsExact state.book e) (sym made)
    (matching_exact state c.args.transaction c.args.number c.args.line.now sound c.requires.there c.requires.is_open)
