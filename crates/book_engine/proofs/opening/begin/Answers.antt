use Rattle.std.proofs.Common.{ℕ, false, List, [], sym, ap, ◌∙◌, subst}
use Rattle.book_undo.specs.Book.{Book}
use Rattle.book_undo.specs.declared.edit.Edit.{Edit}
use Rattle.book_step.specs.Soundness.{IsSound}
use Rattle.book_step.specs.State.{State as StepState, fresh_book}
use Rattle.book_step.proofs.SoundStep.{fresh-sound}
use Rattle.book_opening.specs.State.{State}
use Rattle.book_turns.specs.Whole.{IsWhole}
use Rattle.book_engine.proofs.BoundLemmas.{new_bounded}
use Rattle.book_engine.proofs.WholeLemmas.{fresh_whole}
use Rattle.book_engine.proofs.opening.begin.Goals as goal

pub invariant_of-result : goal.invariant_of-result
invariant_of-result c =
    let Of : Book → List (ℕ × Edit) → List (ℕ × Edit) → State = λ book back forth. record {
      book = book;
      next = 3;
      version = 0;
      position = 0;
      past = 0;
      later = 0;
      back = back;
      forth = forth;
    } in
    record {
      whole = subst (λ (state : State). IsWhole state false)
          (sym (ap (λ (book : Book). Of book c.new.result.entries c.new-2.result.entries) c.in-Ok.ensures
          ∙ ap (λ (back : List (ℕ × Edit)). Of fresh_book back c.new-2.result.entries) c.new.ensures
          ∙ ap (Of fresh_book []) c.new-2.ensures))
          fresh_whole;
      registers = c.in-Ok-kept_of.ensures.registers;
      bounded = new_bounded _ c.in-Ok-kept_of.ensures.new;
      free = c.in-Ok-kept_of.ensures.free;
    }

pub returns-in-Ok-kept_of-clause-sound : goal.returns-in-Ok-kept_of-clause-sound
returns-in-Ok-kept_of-clause-sound c =
    let Of : Book → StepState = λ book. record { book = book; next = 3; version = 0 } in
    subst (λ (book : Book). IsSound (Of book)) (sym c.in-Ok.ensures) fresh-sound
