-- The step is there.
use Rattle.std.proofs.Common.{ℕ, List, reverse, sym, ap, subst, ◌∙◌}
use Rattle.book_history.specs.Steps.{first_fault}
use Rattle.book_opening.specs.State.{state_of}
use Rattle.book_undo.specs.Book.{Book, book_of}
use Rattle.book_undo.specs.declared.edit.Edit.{Edit}
use Rattle.book_broken.specs.Broken.{HasRule}
use Rattle.book_broken.proofs.Named.{back_there, forth_there}
use Rattle.book_broken.proofs.first.first_broken_step.Goals as goal

pub returns-in-Some-clause-rule : goal.returns-in-Some-clause-rule
returns-in-Some-clause-rule c =
    let state = state_of c.args.state.now in
    let fault = ap (λ (steps : List (ℕ × Edit)). first_fault state.next (reverse steps) state.book)
    (sym c.as_slice.ensures) ∙ sym c.in_ok-id.ensures.fault ∙ c.in-Some.is in
    subst (HasRule state) (sym c.step_at.ensures) (back_there state c.in-Some.id fault)

pub returns-in-Some-2-clause-rule : goal.returns-in-Some-2-clause-rule
returns-in-Some-2-clause-rule c =
    let state = state_of c.args.state.now in
    let fault = ap (λ (book : Book). first_fault state.next state.forth book)
    (sym (c.in_ok-id.ensures.same c.in_default.is))
    ∙ ap (λ (steps : List (ℕ × Edit)). first_fault state.next steps (book_of c.first_fault_back.new.plain))
    (sym c.as_slice-2.ensures)
    ∙ sym c.in_ok-id-2.ensures.fault ∙ c.in-Some-2.is in
    subst (HasRule state) (sym c.step_at-in-Some-2.ensures) (forth_there state c.in-Some-2.id fault)
