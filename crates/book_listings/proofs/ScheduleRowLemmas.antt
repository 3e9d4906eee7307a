-- The rows of schedules grow by those of one more schedule.
use Rattle.std.proofs.Common.{◌≡◌, ℕ, ◌+◌, ◌<◌, ℤ, List, [], ◌∷◌, ◌++◌, Option, append-nil, append_assoc, ap, get_or, length}
use Rattle.std.proofs.Common.{refl, subst, sym, take, ◌∙◌}
use Rattle.std.proofs.lemmas.List.{take_more}
use Rattle.book_next_day.specs.Ahead.{IsNextDay}
use Rattle.book_reports.specs.declared.form.Form.{Form}
use Rattle.book_undo.specs.Book.{Book}
use Rattle.book_undo.specs.declared.schedule.Schedule.{Schedule}
use Rattle.book_listings.specs.Schedules.{AreRows, rows_of}

pub rows_push :
    (form : Form) (book : Book) (entries : List (ℕ × Schedule)) (entry : ℕ × Schedule) (next : Option ℤ)
    (rows : List (List (List ℕ))) → AreRows form book entries rows → IsNextDay entry.1.timing next
    → AreRows form book (entries ++ entry ∷ []) (rows ++ rows_of form book entry.0 entry.1 next)
rows_push form book [] entry next rows none is =
    subst (λ (before : List (List (List ℕ))). AreRows form book (entry ∷ [])
    (before ++ rows_of form book entry.0 entry.1 next)) (sym none)
    (next, [], is, sym (append-nil (rows_of form book entry.0 entry.1 next)), refl)
rows_push form book (first ∷ entries) entry next rows (its, more, here, are, rest) is =
    let added = rows_of form book entry.0 entry.1 next in (
      its,
      more ++ added,
      here,
      ap (λ (l : List (List (List ℕ))). l ++ added) are
          ∙ append_assoc (rows_of form book first.0 first.1 its) more added,
      rows_push form book entries entry next more rest is,
    )

-- so do those of the schedules up to a place by those of the one there
pub rows_next :
    (form : Form) (book : Book) (all : List (ℕ × Schedule)) (i : ℕ) (entry : ℕ × Schedule) (next : Option ℤ)
    (rows : List (List (List ℕ))) → i < length all → entry ≡ get_or all i entry → AreRows form book (take i all) rows
    → IsNextDay entry.1.timing next
    → AreRows form book (take (i + 1) all) (rows ++ rows_of form book entry.0 entry.1 next)
rows_next form book all i entry next rows lt is are day =
    let here = take_more all i entry lt ∙ ap (λ (item : ℕ × Schedule). take i all ++ item ∷ []) (sym is) in
    subst (λ (l : List (ℕ × Schedule)). AreRows form book l (rows ++ rows_of form book entry.0 entry.1 next))
    (sym here) (rows_push form book (take i all) entry next rows are day)
