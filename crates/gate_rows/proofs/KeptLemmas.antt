-- Rows that are put one after another as they rise.
use Rattle.std.proofs.Common.{◌≡◌, ℕ, zero, suc, ◌+◌, ◌<◌, List, [], ◌∷◌, length, take, get_or, sym}
use Rattle.std.proofs.Common.{ap, ◌∙◌, subst, add-one, arith}
use Rattle.std.proofs.lemmas.Bool.Decides.{nat_tests}
use Rattle.book_keeper.specs.declared.row.Row.{Row}
use Rattle.book_keeper.specs.Rows.{AllAbove, Rises, rank, with_row}

above_item :
    (n : ℕ) (rows : List Row) (i : ℕ) (x : Row) → AllAbove n rows → i < length rows → n < rank (get_or rows i x).key
above_item n [] i x a lt = absurd (omega arith)
above_item n (r ∷ rows) zero x a lt = a.0
above_item n (r ∷ rows) (suc i) x a lt = above_item n rows i x a.1 (omega arith)

put_after :
    (rows : List Row) (i : ℕ) (row : Row) → Rises rows → i < length rows → row ≡ get_or rows i row
    → with_row row (take i rows) ≡ take (suc i) rows
put_after [] i row rise lt is = absurd (omega arith)
put_after (r ∷ rows) zero row rise lt is = ap (λ (x : Row). x ∷ []) is
put_after (r ∷ rows) (suc i) row rise lt is =
    let past : rank r.key < rank row.key =
    subst (λ (x : Row). rank r.key < rank x.key) (sym is) (above_item (rank r.key) rows i row rise.0 (omega arith)) in
    grind (arith, nat_tests, past, put_after rows i row rise.1 (omega arith) is)

-- the rows before a place with the one there are those before the next place
pub put_next :
    (rows : List Row) (i : ℕ) (row : Row) → Rises rows → i < length rows → row ≡ get_or rows i row
    → with_row row (take i rows) ≡ take (i + 1) rows
put_next rows i row rise lt is = put_after rows i row rise lt is ∙ ap (λ n. take n rows) (sym (add-one i))
