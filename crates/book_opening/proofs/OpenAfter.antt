-- Rows with the changes of an edit and of steps made open as the state after them: the law by the parts of that state.
use Rattle.std.proofs.Common.{◌≡◌, ℕ, List, [], ◌∷◌, ◌++◌, map, refl, sym, ap, ◌∙◌}
use Rattle.std.specs.List.{AllByRecursion}
use Rattle.book_keeper.specs.Rows.{after_changes}
use Rattle.book_keeper.specs.declared.row.Row.{Row}
use Rattle.book_undo.specs.Book.{Book}
use Rattle.book_undo.specs.Edit.{edited, leaves}
use Rattle.book_undo.specs.declared.edit.Edit.{Edit}
use Rattle.book_rows.specs.Row.{IsRecord}
use Rattle.book_rows.specs.declared.record.Record.TheVariants as kept
use Rattle.book_opening.specs.BookRows.{back_records, behind_head, forth_records, things_of}
use Rattle.book_opening.specs.Changes.{GoneBack, GoneForth, IsSmallLeaf, LeafFits, PutBack, PutForth, StepChange}
use Rattle.book_opening.specs.Changes.{StepFits, changes_of, step_change, with_step, with_steps}
use Rattle.book_rows.specs.declared.format.RowFormat.TheVariants.{Two}
use Rattle.book_opening.specs.Opening.{OpenIn}
use Rattle.book_opening.specs.State.{State, head_of}
use Rattle.book_opening.specs.Steps.{AreCounted}
use Rattle.book_opening.proofs.ChangeLaws.{IsSmallStep, opens_after}
use Rattle.book_opening.proofs.StateRecords.{with_book}

-- What changes of steps come to is the same whatever the book is.
pub steps_with :
    (steps : List StepChange) (b : Book) (s : State)
    → with_steps steps (with_book b s) ≡ with_book b (with_steps steps s)
steps_with [] b s = refl
steps_with (PutBack n e ∷ steps) b s = steps_with steps b (with_step (PutBack n e) s)
steps_with (GoneBack n ∷ steps) b s = steps_with steps b (with_step (GoneBack n) s)
steps_with (PutForth n e ∷ steps) b s = steps_with steps b (with_step (PutForth n e) s)
steps_with (GoneForth n ∷ steps) b s = steps_with steps b (with_step (GoneForth n) s)

-- The records behind the head are those of the book and of the steps.
pub same_parts :
    (s t : State) → s.book ≡ t.book → s.back ≡ t.back → s.forth ≡ t.forth → behind_head s ≡ behind_head t
same_parts s t book back forth =
    ap (λ (b : Book). things_of b ++ (back_records s.back ++ forth_records s.forth)) book
    ∙ ap (λ (l : List (ℕ × Edit)). things_of t.book ++ (back_records l ++ forth_records s.forth)) back
    ∙ ap (λ (l : List (ℕ × Edit)). things_of t.book ++ (back_records t.back ++ forth_records l)) forth

-- Rows that open as a state, with the changes of an edit, of a new head and of steps made, open as the state that has
-- the edited book, the changed steps and that head, where these are the steps that the head counts.
pub opens_with :
    (rows : List Row) (s t : State) (edit : Edit) (steps : List StepChange) → OpenIn Two rows s
    → t.book ≡ edited edit s.book → t.back ≡ (with_steps steps s).back → t.forth ≡ (with_steps steps s).forth
    → AllByRecursion IsSmallLeaf (leaves edit) → AllByRecursion LeafFits (leaves edit)
    → AllByRecursion IsSmallStep steps → AllByRecursion StepFits steps
    → IsRecord Two (kept.Head (head_of t)) → AreCounted t
    → OpenIn Two (after_changes (changes_of (head_of t) edit ++ map step_change steps) rows) t
opens_with rows s t edit steps opens book back forth small fit small_steps fit_steps head_fits counted =
    let b : Book = edited edit s.book in
    let after : State = with_steps steps (with_book b s) in
    let same : after ≡ with_book b (with_steps steps s) = steps_with steps b s in
    opens_after rows s t edit steps opens
    (same_parts t after (book ∙ ap (λ (x : State). x.book) (sym same)) (back ∙ ap (λ (x : State). x.back) (sym same))
    (forth ∙ ap (λ (x : State). x.forth) (sym same))) small fit small_steps fit_steps head_fits counted
