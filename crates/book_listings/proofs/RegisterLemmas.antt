-- The rows of a register one after another, each with the balance after it.
use Rattle.std.proofs.Common.{◌≡◌, ℕ, suc, zero, ◌+◌, ◌≤◌, ℤ, List, [], ◌∷◌, ◌++◌, Option, Some, add-one, ap}
use Rattle.std.proofs.Common.{append-nil, append_assoc}
use Rattle.std.proofs.Common.{drop, length, slice_get, sym, take, ◌∙◌}
use Rattle.std.proofs.lemmas.List.{drop_all}
use Rattle.book_register.specs.Register.{balance}
use Rattle.book_register.specs.declared.entry.Entry.{Entry}
use Rattle.book_reports.proofs.RowLemmas.{push}
use Rattle.book_undo.specs.Book.{Book}
use Rattle.book_listings.specs.Account.{line_of, register_row, rows_after}

drop_suc : (rows : List Entry) (i : ℕ) (row : Entry) → slice_get rows i ≡ Some row → drop i rows ≡ row ∷ drop (suc i) rows
drop_suc [] i row there = absurd cc
drop_suc (first ∷ rows) zero row there = let same : first ≡ row = cc in ap (λ (r : Entry). r ∷ rows) same
drop_suc (first ∷ rows) (suc i) row there = drop_suc rows i row there

drop_here : (rows : List Entry) (i : ℕ) (row : Entry) → slice_get rows i ≡ Some row → drop i rows ≡ row ∷ drop (i + 1) rows
drop_here rows i row there = drop_suc rows i row there ∙ ap (λ (k : ℕ). row ∷ drop k rows) (sym (add-one i))

-- the rows from a place on are that of the row there and those from the next place on
rows_step :
    (book : Book) (lines : List (ℕ × ℕ)) (fraction : ℕ) (rows : List Entry) (i : ℕ) (row : Entry) → slice_get rows i ≡ Some row
    → rows_after book lines fraction (take i rows) (drop i rows)
    ≡ register_row book (line_of row.split lines) fraction row (balance (take (i + 1) rows))
    ∷ rows_after book lines fraction (take (i + 1) rows) (drop (i + 1) rows)
rows_step book lines fraction rows i row there =
    ap (λ (l : List Entry). rows_after book lines fraction (take i rows) l) (drop_here rows i row there)
    ∙ ap (λ (before : List Entry). register_row book (line_of row.split lines) fraction row (balance before)
    ∷ rows_after book lines fraction before (drop (i + 1) rows)) (push rows i row there)

-- so what was added, with the rows that are left, stays the whole
pub rows_next :
    (book : Book) (line : Option ℕ) (lines : List (ℕ × ℕ)) (fraction : ℕ) (rows : List Entry) (i : ℕ) (row : Entry)
    (after : ℤ) (made : List (List ℕ)) (old new whole : List (List (List ℕ))) → line ≡ line_of row.split lines
    → slice_get rows i ≡ Some row → made ≡ register_row book line fraction row after
    → new ≡ old ++ made ∷ [] → old ++ rows_after book lines fraction (take i rows) (drop i rows) ≡ whole
    → after ≡ balance (take (i + 1) rows)
    → new ++ rows_after book lines fraction (take (i + 1) rows) (drop (i + 1) rows) ≡ whole
rows_next book line lines fraction rows i row after made old new whole alike there is added held same =
    let rest = rows_after book lines fraction (take (i + 1) rows) (drop (i + 1) rows) in
    let here : made ≡ register_row book (line_of row.split lines) fraction row (balance (take (i + 1) rows)) =
    is ∙ ap (λ (l : Option ℕ). register_row book l fraction row after) alike
    ∙ ap (register_row book (line_of row.split lines) fraction row) same in
    ap (λ (l : List (List (List ℕ))). l ++ rest) (added ∙ ap (λ (r : List (List ℕ)). old ++ r ∷ []) here)
    ∙ append_assoc old (register_row book (line_of row.split lines) fraction row (balance (take (i + 1) rows)) ∷ []) rest
    ∙ ap (λ (l : List (List (List ℕ))). old ++ l) (sym (rows_step book lines fraction rows i row there)) ∙ held

-- and behind the last row nothing is left
pub rows_end :
    (book : Book) (lines : List (ℕ × ℕ)) (fraction : ℕ) (rows : List Entry) (i : ℕ) (out whole : List (List (List ℕ)))
    → length rows ≤ i → out ++ rows_after book lines fraction (take i rows) (drop i rows) ≡ whole → out ≡ whole
rows_end book lines fraction rows i out whole past held =
    sym (append-nil out)
    ∙ ap (λ (l : List Entry). out ++ rows_after book lines fraction (take i rows) l) (sym (drop_all i rows past))
    ∙ held
