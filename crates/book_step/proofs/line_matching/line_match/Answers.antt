use Rattle.std.proofs.Common.{◌≡◌, [], ◌∷◌, None, Some, refl, ap, sym, subst, ◌∙◌}
use Rattle.book_commodity.specs.Rules.{first_broken}
use Rattle.book_splits.specs.declared.split.Split.{Split}
use Rattle.book_undo.specs.Edit.{is_nothing}
use Rattle.book_undo.specs.Exact.{IsExact}
use Rattle.book_undo.specs.declared.edit.Edit.{Edit}
use Rattle.book_command.specs.declared.answer.Answer.TheVariants as answer
use Rattle.book_step.specs.LineMatching.{line_match as matching, match_rules}
use Rattle.book_step.specs.Marking.{Held}
use Rattle.book_step.specs.Soundness.{IsSound}
use Rattle.book_step.specs.State.{State}
use Rattle.book_step.specs.VoidRules.{voided_transaction_of}
use Rattle.book_step.proofs.ExactMarks.{pairing_changes, pairing_exact}
use Rattle.book_step.proofs.MarkingLemmas.{match-broken, match-changed, match-open, match-voided}
use Rattle.book_step.proofs.OutcomeLemmas.{refused}
use Rattle.book_step.proofs.VoidRuleLemmas.{one_broken, one_kept}
use Rattle.book_step.proofs.line_matching.line_match.Goals as goal

pub returns-in_err-check_holder_not_voided : goal.returns-in_err-check_holder_not_voided
returns-in_err-check_holder_not_voided c =
    let state = c.args.present.now in
    let line = c.in_ok-line.line.now in
    let held = c.in_ok-held.held in
    let rule = c.in_err-check_holder_not_voided.field-0.0 in
    refused state (matching state c.args.number c.args.split) rule c.from_residual-in_err-check_holder_not_voided.result
    c.from_residual-in_err-check_holder_not_voided.ensures.1
    (match-voided state c.args.number c.args.split line held.split rule c.in_ok-line.ensures.there
    c.in_ok-held.ensures.split
    (one_broken (voided_transaction_of state.book.transactions c.args.split) rule c.in_err-check_holder_not_voided.ensures))

pub returns-in_err-check_match : goal.returns-in_err-check_match
returns-in_err-check_match c =
    let state = c.args.present.now in
    let line = c.in_ok-line.line.now in
    let held = c.in_ok-held.held in
    let unvoided = one_kept (voided_transaction_of state.book.transactions c.args.split) c.in_ok-check_holder_not_voided.ensures in
    let rule = c.in_err-check_match.field-0.0 in
    let broken = subst (λ (s : Split). first_broken (match_rules state.book.lines c.args.number line c.args.split s)
    ≡ Some rule) (ap (λ (h : Held). h.split) c.held.view_is) c.in_err-check_match.ensures in
    refused state (matching state c.args.number c.args.split) rule c.from_residual-in_err-check_match.result
    c.from_residual-in_err-check_match.ensures.1
    (match-broken state c.args.number c.args.split line held.split rule c.in_ok-line.ensures.there
    c.in_ok-held.ensures.split unvoided broken)

pub changing-requires-clause-changes : goal.changing-requires-clause-changes
changing-requires-clause-changes c =
    ap is_nothing c.in_ok-edit.ensures
    ∙ pairing_changes c.args.number c.in_ok-line.line.now c.args.split c.in_ok-held.held

pub changing-requires-clause-exact : goal.changing-requires-clause-exact
changing-requires-clause-exact c sound =
    let state = c.args.present.now in
    let line = c.in_ok-line.line.now in
    let there = c.in_ok-line.ensures.there in
    subst (λ (e : Edit). IsExact state.book e) (sym c.in_ok-edit.ensures)
    (pairing_exact state c.args.number line c.args.split c.in_ok-held.held sound c.in_ok-held.ensures.there there
    (match-open state.book.lines c.args.number c.args.split line c.held.inside.split.now c.in_ok-check_match.ensures))

pub returns : goal.returns
returns c =
    let state = c.args.present.now in
    let line = c.in_ok-line.line.now in
    let held = c.in_ok-held.held in
    let sound = subst (λ (s : State). IsSound s) c.present.view_is c.present.invariant in
    let kept = subst (λ (s : Split). first_broken (match_rules state.book.lines c.args.number line c.args.split s)
    ≡ None) (ap (λ (h : Held). h.split) c.held.view_is) c.in_ok-check_match.ensures in
    let alive = one_kept (voided_transaction_of state.book.transactions c.args.split) c.in_ok-check_holder_not_voided.ensures in
    match-changed state c.args.number c.args.split line held c.in_ok-edit.edit c.changing.result sound
    c.in_ok-held.ensures.there c.in_ok-line.ensures.there c.in_ok-held.ensures.split alive kept c.in_ok-edit.ensures
    (c.changing.ensures answer.LineMatch refl)
