-- Rows of texts one after another, and the texts of a row in their columns.
use Rattle.std.proofs.Common.{◌≡◌, ℕ, suc, zero, ◌+◌, ◌≤◌, ◌<◌, ◌==◌, ◌&&◌, Bool, true, false, if◌then◌else◌, take}
use Rattle.std.proofs.Common.{max, min, List, [], ◌∷◌, ◌++◌, length, drop, get_or, refl, sym, ap, ◌∙◌, arith, add-one}
use Rattle.std.proofs.Common.{drop-cons}
use Rattle.std.proofs.lemmas.Bool.Decides.{nat_tests}
use Rattle.std.proofs.lemmas.List.{length-take-le, take_more}
use Rattle.book_table.specs.Columns.{before, columns_from, filled, gap, line, placed, widest, width_at}
use Rattle.book_table.specs.declared.columns.Column.{Column}
use Rattle.book_table.specs.declared.columns.Side.{Side}

-- ---- the widest text

-- the widest text of the rows from one on is that of the row or of those behind it
pub widest_next :
    (place i : ℕ) (rows : List (List (List ℕ))) (d : List (List ℕ)) → i < length rows
    → widest place (drop i rows) ≡ max (width_at place (get_or rows i d)) (widest place (drop (i + 1) rows))
widest_next place i rows d lt = rw (add-one, drop-cons rows i d) refl

pub widest_end :
    (place i : ℕ) (rows : List (List (List ℕ))) → length rows ≤ i → widest place (drop i rows) ≡ 0
widest_end place i [] le = elim i as (λ n. widest place (drop n []) ≡ 0) [ zero ↦ refl | suc n ↦ refl ]
widest_end place zero (row ∷ rows) le = absurd (omega (arith, le))
widest_end place (suc i) (row ∷ rows) le = widest_end place i rows (omega (arith, le))

-- ---- the columns

pub columns_next :
    (sides : List Side) (rows : List (List (List ℕ))) (i : ℕ) (d : Side) → i < length sides
    → columns_from i (drop i sides) rows
    ≡ record { side = get_or sides i d; places = min (widest i rows) 80 } ∷ columns_from (i + 1) (drop (i + 1) sides) rows
columns_next sides rows i d lt =
    ap (λ (s : List Side). columns_from i s rows) (drop-cons sides i d lt)
    ∙ ap (λ (n : ℕ). record { side = get_or sides i d; places = min (widest i rows) 80 } ∷ columns_from (i + 1) (drop n sides) rows)
    (sym (add-one i))

pub columns_end :
    (sides : List Side) (rows : List (List (List ℕ))) (place i : ℕ) → length sides ≤ i
    → columns_from place (drop i sides) rows ≡ []
columns_end [] rows place i le =
    elim i as (λ n. columns_from place (drop n []) rows ≡ []) [ zero ↦ refl | suc n ↦ refl ]
columns_end (side ∷ sides) rows place zero le = absurd (omega (arith, le))
columns_end (side ∷ sides) rows place (suc i) le = columns_end sides rows place i (omega (arith, le))

-- ---- a row in its columns

pub gap_before : (row : List (List ℕ)) (i : ℕ) → i < length row → gap (drop i row) ≡ 32 ∷ 32 ∷ []
gap_before row i lt = ap gap (drop-cons row i [] lt)

pub gap_behind : (row : List (List ℕ)) (i : ℕ) → length row ≤ i → gap (drop i row) ≡ []
gap_behind [] i le = elim i as (λ n. gap (drop n []) ≡ []) [ zero ↦ refl | suc n ↦ refl ]
gap_behind (text ∷ row) zero le = absurd (omega (arith, le))
gap_behind (text ∷ row) (suc i) le = gap_behind row i (omega (arith, le))

pub before_more :
    (column : Column) (row : List (List ℕ)) (i : ℕ) → i < length row → column ≡ before (drop i row) column
before_more column row i lt =
    ap (λ (texts : List (List ℕ)). before texts column) (sym (drop-cons row i [] lt))

pub line_next :
    (columns : List Column) (row : List (List ℕ)) (i : ℕ) (c : Column) (t : List ℕ)
    → i < length columns → i < length row
    → line (drop i columns) (drop i row)
    ≡ placed (before (drop (i + 1) row) (get_or columns i c)) (get_or row i t) ++ gap (drop (i + 1) row) ++ line (drop (i + 1) columns) (drop (i + 1) row)
line_next columns row i c t columns_lt row_lt =
    ap (λ (cs : List Column). line cs (drop i row)) (drop-cons columns i c columns_lt)
    ∙ ap (λ (ts : List (List ℕ)). line (get_or columns i c ∷ drop (suc i) columns) ts) (drop-cons row i t row_lt)
    ∙ ap (λ (n : ℕ). placed (before (drop n row) (get_or columns i c)) (get_or row i t) ++ gap (drop n row) ++ line (drop n columns) (drop n row))
    (sym (add-one i))

-- behind the last column, and behind the last text, the line ends
pub line_end :
    (columns : List Column) (row : List (List ℕ)) (i : ℕ) → min (length columns) (length row) ≤ i
    → line (drop i columns) (drop i row) ≡ 10 ∷ []
line_end [] row i le =
    elim i as (λ n. line (drop n []) (drop n row) ≡ 10 ∷ []) [ zero ↦ refl | suc n ↦ refl ]
line_end (column ∷ columns) [] i le = ends (drop i (column ∷ columns)) i
  where
    ends : (cs : List Column) (n : ℕ) → line cs (drop n []) ≡ 10 ∷ []
    ends [] n = refl
    ends (c ∷ cs) zero = refl
    ends (c ∷ cs) (suc n) = refl
line_end (column ∷ columns) (text ∷ row) zero le = absurd (omega (arith, le))
line_end (column ∷ columns) (text ∷ row) (suc i) le = line_end columns row i (omega (arith, le))

-- ---- the texts up to the last one that isn't empty

pub filled_bound : (row : List (List ℕ)) → filled row ≤ length row
filled_bound [] = omega arith
filled_bound (text ∷ row) = bound_by (length text == 0 && filled row == 0) (filled_bound row)
  where
    bound_by : (t : Bool) → filled row ≤ length row → (if t then 0 else filled row + 1) ≤ suc (length row)
    bound_by true more = omega arith
    bound_by false more = omega (arith, more)

empty_or : (a : Bool) (n : ℕ) → (if a && true then 0 else n) ≡ (if a then 0 else n)
empty_or true n = refl
empty_or false n = refl

never_none : (n : ℕ) → (suc n == 0) ≡ false
never_none n = grind (arith, nat_tests)

and_false : (a : Bool) (n : ℕ) → (if a && false then 0 else n) ≡ n
and_false true n = refl
and_false false n = refl

push_by :
    (x t : List ℕ) (row : List (List ℕ)) (m : ℕ) (e : Bool) → length t == 0 ≡ e
    → m ≡ (if e then filled row else length row + 1)
    → (if length x == 0 && m == 0 then 0 else m + 1) ≡ (if e then filled (x ∷ row) else length (x ∷ row) + 1)
push_by x t row m true test is = ap (λ (k : ℕ). if length x == 0 && k == 0 then 0 else k + 1) is
push_by x t row m false test is =
    ap (λ (k : ℕ). if length x == 0 && k == 0 then 0 else k + 1) (is ∙ add-one (length row))
    ∙ ap (λ (e : Bool). if length x == 0 && e then 0 else suc (length row) + 1) (never_none (length row))
    ∙ and_false (length x == 0) (suc (length row) + 1)

-- with one text more, it is the last one, where it isn't empty
pub filled_push :
    (row : List (List ℕ)) (text : List ℕ)
    → filled (row ++ text ∷ []) ≡ (if length text == 0 then filled row else length row + 1)
filled_push [] text = empty_or (length text == 0) 1
filled_push (x ∷ row) text =
    push_by x text row (filled (row ++ text ∷ [])) (length text == 0) refl (filled_push row text)

pub filled_next :
    (row : List (List ℕ)) (i : ℕ) (text : List ℕ) → i < length row → text ≡ get_or row i text
    → filled (take (i + 1) row) ≡ (if length text == 0 then filled (take i row) else i + 1)
filled_next row i text lt is =
    ap filled (take_more row i text lt ∙ ap (λ (t : List ℕ). take i row ++ t ∷ []) (sym is))
    ∙ filled_push (take i row) text
    ∙ ap (λ (n : ℕ). if length text == 0 then filled (take i row) else n + 1) (length-take-le i row (omega (arith, lt)))
