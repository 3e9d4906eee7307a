use Rattle.std.proofs.Common.{◌≡◌, ℕ, ◌+◌, ◌-◌, ◌^◌, List, [], ◌∷◌, ◌++◌, map, Some, None, refl, sym, ap, subst}
use Rattle.std.proofs.Common.{◌∙◌, arith}
use Rattle.book_commodity.specs.Rules.{first_broken}
use Rattle.book_splits.specs.declared.transaction.Txn.{Txn}
use Rattle.book_undo.specs.Book.{book_of}
use Rattle.book_undo.specs.Edit.{edited}
use Rattle.book_undo.specs.Exact.{IsExact}
use Rattle.book_undo.specs.declared.edit.Edit.{Edit, All as AllOf}
use Rattle.book_undo.proofs.ExactLaws.{something_of_some}
use Rattle.book_command.specs.declared.answer.Answer.TheVariants as answer
use Rattle.book_step.specs.ScheduleRuns.{drawn_by, made_by, ran_by, run_edits, schedule_edits, schedule_run_of}
use Rattle.book_step.specs.ScheduleRuns.{too_many_made, too_many_splits_made, transaction_edits}
use Rattle.book_step.specs.Soundness.{IsSound}
use Rattle.book_step.specs.State.{State}
use Rattle.book_step.proofs.ExactRuns.{run_exact, run_leads}
use Rattle.book_step.proofs.OutcomeLemmas.{refused}
use Rattle.book_step.proofs.RunWalkLemmas.{counts-few, made-below-more, run-broken, run-changed, run-edits-some}
use Rattle.book_step.proofs.SoundRuns.{made_stays}
use Rattle.book_step.proofs.schedule_runs.run_all.Goals as goal

pub returns-in_err-check_counts : goal.returns-in_err-check_counts
returns-in_err-check_counts c = λ rules unbroken.
    let state = c.args.present.now in
    let runs = c.args.runs.now in
    let rule = c.in_err-check_counts.field-0.0 in
    let broken = subst (λ (s : State).
    first_broken (too_many_made s.book runs ∷ too_many_splits_made s.book runs ∷ []) ≡ Some rule)
    c.present.view_is c.in_err-check_counts.ensures in
    refused state (schedule_run_of state rules runs) rule c.from_residual.result c.from_residual.ensures.1
    (run-broken state rules runs rule c.requires.some unbroken broken)

pub make_all-requires : goal.make_all-requires
make_all-requires c =
    let few = counts-few (book_of c.present.inside.plain.now) c.args.runs.now c.in_ok-check_counts.ensures in
    let next = c.present.invariant.next in
    omega (arith, few, next)

pub with_schedules-requires : goal.with_schedules-requires
with_schedules-requires c =
    let state = c.args.present.now in
    let runs = c.args.runs.now in
    let sound = subst (λ (s : State). IsSound s) c.present.view_is c.present.invariant in
    let few = counts-few (book_of c.present.inside.plain.now) runs c.in_ok-check_counts.ensures in
    let next = sound.next in
    made-below-more (state.next + drawn_by runs) (2 ^ 63) runs (omega (arith, few, next))
    (made_stays state.book state.next (drawn_by runs) runs sound.drawn (c.requires.runs sound) (omega arith))

pub changing-requires-clause-drawn : goal.changing-requires-clause-drawn
changing-requires-clause-drawn c =
    let few = counts-few (book_of c.present.inside.plain.now) c.args.runs.now c.in_ok-check_counts.ensures in
    let moved = c.in_ok-make_all.ensures.2 in
    omega (arith, few, moved)

pub changing-requires-clause-changes : goal.changing-requires-clause-changes
changing-requires-clause-changes c =
    something_of_some c.in_ok-with_schedules.field-0
    (λ none. run-edits-some _ c.args.runs.now c.requires.some (sym c.in_ok-with_schedules.ensures ∙ none))

pub changing-requires-clause-exact : goal.changing-requires-clause-exact
changing-requires-clause-exact c sound =
    let state = c.args.present.now in
    let runs = c.args.runs.now in
    let next = ap (λ (s : State). s.next) c.present.view_is in
    let made = c.in_ok-make_all.ensures.0
    ∙ ap (λ (es : List Edit). es ++ transaction_edits (made_by c.present.inside.next runs)) c.new.ensures in
    let edits = c.in_ok-with_schedules.ensures
    ∙ ap (λ (es : List Edit). es ++ schedule_edits (ran_by runs)) made
    ∙ ap (λ (n : ℕ). run_edits n runs) next in
    subst (λ (es : List Edit). IsExact state.book (AllOf es)) (sym edits)
    (run_exact state runs sound (c.requires.runs sound) (c.requires.rise sound))

pub returns : goal.returns
returns c = λ rules unbroken.
    let state = c.args.present.now in
    let runs = c.args.runs.now in
    let next = ap (λ (s : State). s.next) c.present.view_is in
    let made = c.in_ok-make_all.ensures.0
    ∙ ap (λ (es : List Edit). es ++ transaction_edits (made_by c.present.inside.next runs)) c.new.ensures in
    let edits = c.in_ok-with_schedules.ensures
    ∙ ap (λ (es : List Edit). es ++ schedule_edits (ran_by runs)) made
    ∙ ap (λ (n : ℕ). run_edits n runs) next in
    let numbers = c.in_ok-make_all.ensures.1
    ∙ ap (λ (ns : List ℕ). ns ++ map (λ (e : ℕ × Txn). e.0) (made_by c.present.inside.next runs)) c.new-2.ensures
    ∙ ap (λ (n : ℕ). map (λ (e : ℕ × Txn). e.0) (made_by n runs)) next in
    let moved = c.in_ok-make_all.ensures.2 in
    let room = subst (λ (s : State).
    first_broken (too_many_made s.book runs ∷ too_many_splits_made s.book runs ∷ []) ≡ None)
    c.present.view_is c.in_ok-check_counts.ensures in
    run-changed state rules runs (c.make_all.new.self.next - c.present.inside.next)
    (edited (AllOf c.in_ok-with_schedules.field-0) state.book) c.make_all.new.self.numbers c.changing.result
    c.requires.some unbroken room (omega (arith, moved))
    (ap (λ (es : List Edit). edited (AllOf es) state.book) edits ∙ run_leads state.book state.next runs) numbers
    (c.changing.ensures (answer.ScheduleRun c.make_all.new.self.numbers) refl)
