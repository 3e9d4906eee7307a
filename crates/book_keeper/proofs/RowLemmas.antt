-- Rising rows: what stands at a place, and what is found behind a key.
use Rattle.std.proofs.Common.{◌≡◌, ℕ, zero, suc, ◌+◌, ◌^◌, ◌<◌, ◌≤◌, nat_lt, ◌==◌, Bool, true, false, if◌then◌else◌}
use Rattle.std.proofs.Common.{List, [], ◌∷◌, length, get_or, set, Some, None, Result, Ok, Err, IfOk, Option, IfSome}
use Rattle.std.proofs.Common.{IfErr, slice_get, refl, sym, ap, ◌∙◌, subst, add-one, arith}
use Rattle.std.specs.List.{insert, remove, list_all}
use Rattle.std.specs.List.Sorted.{IsSearchInRange, IsBinarySearchResult, IsNonDecreasingBy}
use Rattle.std.specs.Ordering.{nat_cmp, ordering_index}
use Rattle.std.proofs.lemmas.Cmp.{ranked}
use Rattle.std.proofs.lemmas.Bool.Decides.{nat_tests}
use Rattle.book_keeper.specs.declared.row.RowKey.{RowKey}
use Rattle.book_keeper.specs.declared.row.Row.{Row}
use Rattle.book_keeper.specs.declared.row.Change.{Change}
use Rattle.book_keeper.specs.declared.row.Change.TheVariants.{Put, Gone}
use Rattle.book_keeper.specs.Rows.{AllAbove, Rises, rank, with_row, without_row, after_change, after_changes}
use Rattle.book_keeper.specs.Rows.{first_above, first_row, first_after, IsAt, IsGapFor}

above_less : (m n : ℕ) (rows : List Row) → m ≤ n → AllAbove n rows → AllAbove m rows
above_less m n [] h a = tt
above_less m n (r ∷ rows) h a = (omega (arith, h, a.0), above_less m n rows h a.1)

above_with : (m : ℕ) (new : Row) (rows : List Row) → m < rank new.key → AllAbove m rows → AllAbove m (with_row new rows)
above_with m new [] h a = (h, tt)
above_with m new (r ∷ rows) h a = grind (arith, nat_tests, h, a.0, a.1, above_with m new rows h a.1)

rises_with_by :
    (new r : Row) (rows : List Row) (less same : Bool) → nat_lt (rank new.key) (rank r.key) ≡ less
    → (rank new.key == rank r.key) ≡ same → Rises (r ∷ rows) → Rises (with_row new rows)
    → Rises (if less then new ∷ r ∷ rows else (if same then new ∷ rows else r ∷ with_row new rows))
rises_with_by new r rows true same lt eq rise more =
    let below : rank new.key < rank r.key = grind (arith, nat_tests) in
    ((below, above_less (rank new.key) (rank r.key) rows (omega (arith, below)) rise.0), rise)
rises_with_by new r rows false true lt eq rise more =
    let here : rank new.key ≡ rank r.key = grind (arith, nat_tests) in
    (subst (λ n. AllAbove n rows) (sym here) rise.0, rise.1)
rises_with_by new r rows false false lt eq rise more =
    let past : rank r.key < rank new.key = grind (arith, nat_tests) in
    (above_with (rank r.key) new rows past rise.0, more)

-- rows with one put among them rise
pub rises_with : (new : Row) (rows : List Row) → Rises rows → Rises (with_row new rows)
rises_with new [] rise = (tt, tt)
rises_with new (r ∷ rows) rise =
    rises_with_by new r rows (nat_lt (rank new.key) (rank r.key)) (rank new.key == rank r.key) refl refl rise
    (rises_with new rows rise.1)

above_without : (m : ℕ) (key : RowKey) (rows : List Row) → AllAbove m rows → AllAbove m (without_row key rows)
above_without m key [] a = tt
above_without m key (r ∷ rows) a = grind (arith, nat_tests, a.0, a.1, above_without m key rows a.1)

rises_without_by :
    (key : RowKey) (r : Row) (rows : List Row) (same : Bool) → Rises (r ∷ rows) → Rises (without_row key rows)
    → Rises (if same then rows else r ∷ without_row key rows)
rises_without_by key r rows true rise more = rise.1
rises_without_by key r rows false rise more = (above_without (rank r.key) key rows rise.0, more)

-- rows with one taken out rise
pub rises_without : (key : RowKey) (rows : List Row) → Rises rows → Rises (without_row key rows)
rises_without key [] rise = tt
rises_without key (r ∷ rows) rise =
    rises_without_by key r rows (rank key == rank r.key) rise (rises_without key rows rise.1)

-- rows after a change rise
pub rises_after : (change : Change) (rows : List Row) → Rises rows → Rises (after_change change rows)
rises_after (Put row) rows rise = rises_with row rows rise
rises_after (Gone key) rows rise = rises_without key rows rise

pub rises_after_all : (changes : List Change) (rows : List Row) → Rises rows → Rises (after_changes changes rows)
rises_after_all [] rows rise = rise
rises_after_all (change ∷ changes) rows rise =
    rises_after_all changes (after_change change rows) (rises_after change rows rise)

first_is_above_by :
    (n : ℕ) (r : Row) (rows : List Row) (t : Bool) → nat_lt n (rank r.key) ≡ t
    → IfSome (first_above n rows) (λ row. n < rank row.key)
    → IfSome (if t then Some r else first_above n rows) (λ row. n < rank row.key)
first_is_above_by n r rows true e more = grind (arith, nat_tests)
first_is_above_by n r rows false e more = more

-- the first row above a rank is above it
pub first_is_above : (n : ℕ) (rows : List Row) → IfSome (first_above n rows) (λ row. n < rank row.key)
first_is_above n [] = tt
first_is_above n (r ∷ rows) = first_is_above_by n r rows (nat_lt n (rank r.key)) refl (first_is_above n rows)

-- the first row behind a key has a greater one
pub after_is_above :
    (key : Option RowKey) (rows : List Row) (row : Row) → first_after key rows ≡ Some row
    → IfSome key (λ before. rank before < rank row.key)
after_is_above None rows row is = tt
after_is_above (Some before) rows row is =
    subst (λ o. IfSome o (λ (r : Row). rank before < rank r.key)) is (first_is_above (rank before) rows)

-- ---- at the place of a row
pub at_below : (n : ℕ) (rows : List Row) (place : ℕ) → IsAt n rows place → place < length rows
at_below n [] place h = absurd h
at_below n (r ∷ rows) zero h = omega arith
at_below n (r ∷ rows) (suc place) h = omega (arith, at_below n rows place h.1)

pub at_with :
    (new : Row) (rows : List Row) (place : ℕ) → IsAt (rank new.key) rows place → set rows place new ≡ with_row new rows
at_with new [] place h = absurd h
at_with new (r ∷ rows) zero h = grind (arith, nat_tests, h)
at_with new (r ∷ rows) (suc place) h = grind (arith, nat_tests, h.0, at_with new rows place h.1)

pub at_without :
    (key : RowKey) (rows : List Row) (place : ℕ) → IsAt (rank key) rows place → remove rows place ≡ without_row key rows
at_without key [] place h = absurd h
at_without key (r ∷ rows) zero h = grind (arith, nat_tests, h)
at_without key (r ∷ rows) (suc place) h = grind (arith, nat_tests, h.0, at_without key rows place h.1)

above_first : (n : ℕ) (rows : List Row) → AllAbove n rows → first_above n rows ≡ slice_get rows 0
above_first n [] a = refl
above_first n (r ∷ rows) a = grind (arith, nat_tests, a.0)

behind_at :
    (n : ℕ) (rows : List Row) (place : ℕ) → Rises rows → IsAt n rows place
    → first_above n rows ≡ slice_get rows (suc place)
behind_at n [] place rise h = absurd h
behind_at n (r ∷ rows) zero rise h =
    let rest = above_first n rows (subst (λ m. AllAbove m rows) h rise.0) in grind (arith, nat_tests, h, rest)
behind_at n (r ∷ rows) (suc place) rise h = grind (arith, nat_tests, h.0, behind_at n rows place rise.1 h.1)

pub at_first :
    (n : ℕ) (rows : List Row) (place : ℕ) → Rises rows → IsAt n rows place
    → first_above n rows ≡ slice_get rows (place + 1)
at_first n rows place rise h = behind_at n rows place rise h ∙ ap (slice_get rows) (sym (add-one place))

-- ---- at the place where a row would go
pub gap_below : (n : ℕ) (rows : List Row) (place : ℕ) → IsGapFor n rows place → place ≤ length rows
gap_below n rows zero h = omega arith
gap_below n [] (suc place) h = absurd h
gap_below n (r ∷ rows) (suc place) h = omega (arith, gap_below n rows place h.1)

pub gap_with :
    (new : Row) (rows : List Row) (place : ℕ) → IsGapFor (rank new.key) rows place
    → insert rows place new ≡ with_row new rows
gap_with new [] zero h = refl
gap_with new (r ∷ rows) zero h = grind (arith, nat_tests, h.0)
gap_with new [] (suc place) h = absurd h
gap_with new (r ∷ rows) (suc place) h = grind (arith, nat_tests, h.0, gap_with new rows place h.1)

above_all_without : (key : RowKey) (rows : List Row) → AllAbove (rank key) rows → without_row key rows ≡ rows
above_all_without key [] a = refl
above_all_without key (r ∷ rows) a = grind (arith, nat_tests, a.0, above_all_without key rows a.1)

pub gap_without :
    (key : RowKey) (rows : List Row) (place : ℕ) → IsGapFor (rank key) rows place → without_row key rows ≡ rows
gap_without key rows zero h = above_all_without key rows h
gap_without key [] (suc place) h = absurd h
gap_without key (r ∷ rows) (suc place) h = grind (arith, nat_tests, h.0, gap_without key rows place h.1)

pub gap_first :
    (n : ℕ) (rows : List Row) (place : ℕ) → IsGapFor n rows place → first_above n rows ≡ slice_get rows place
gap_first n rows zero h = above_first n rows h
gap_first n [] (suc place) h = absurd h
gap_first n (r ∷ rows) (suc place) h = grind (arith, nat_tests, h.0, gap_first n rows place h.1)

pub first_at_front : (rows : List Row) → first_row rows ≡ slice_get rows 0
first_at_front [] = refl
first_at_front (r ∷ rows) = refl

-- what a place says of the rows with one put or taken, and of the first row behind a key
pub ruleset places = (
  at_below,
  at_with,
  at_without,
  at_first,
  gap_below,
  gap_with,
  gap_without,
  gap_first,
  first_at_front,
  rises_with,
  rises_without,
)

-- ---- what a binary search finds
above_at :
    (n : ℕ) (rows : List Row) (i : ℕ) (x : Row) → AllAbove n rows → i < length rows → n < rank (get_or rows i x).key
above_at n [] i x a lt = absurd (omega arith)
above_at n (r ∷ rows) zero x a lt = a.0
above_at n (r ∷ rows) (suc i) x a lt = above_at n rows i x a.1 (omega arith)

keys_rise :
    (rows : List Row) (i j : ℕ) (x : Row) → Rises rows → i ≤ j → j < length rows
    → rank (get_or rows i x).key ≤ rank (get_or rows j x).key
keys_rise [] i j x rise le lt = absurd (omega arith)
keys_rise (r ∷ rows) zero zero x rise le lt = omega arith
keys_rise (r ∷ rows) zero (suc j) x rise le lt = omega (arith, above_at (rank r.key) rows j x rise.0 (omega arith))
keys_rise (r ∷ rows) (suc i) zero x rise le lt = absurd (omega arith)
keys_rise (r ∷ rows) (suc i) (suc j) x rise le lt = keys_rise rows i j x rise.1 (omega arith) (omega arith)

at_from :
    (n : ℕ) (rows : List Row) (place : ℕ) → Rises rows → place < length rows
    → ((x : Row) → rank (get_or rows place x).key ≡ n) → IsAt n rows place
at_from n [] place rise lt h = absurd (omega arith)
at_from n (r ∷ rows) zero rise lt h = h r
at_from n (r ∷ rows) (suc place) rise lt h =
    let past = above_at (rank r.key) rows place r rise.0 (omega arith) in
    (omega (arith, past, h r), at_from n rows place rise.1 (omega arith) h)

above_from :
    (n : ℕ) (rows : List Row) → ((k : ℕ) (x : Row) → k < length rows → n < rank (get_or rows k x).key) → AllAbove n rows
above_from n [] h = tt
above_from n (r ∷ rows) h = (h 0 r (omega arith), above_from n rows (λ k x lt. h (suc k) x (omega arith)))

gap_from :
    (n : ℕ) (rows : List Row) (place : ℕ) → place ≤ length rows
    → ((k : ℕ) (x : Row) → k < place → rank (get_or rows k x).key < n)
    → ((k : ℕ) (x : Row) → place ≤ k → k < length rows → n < rank (get_or rows k x).key) → IsGapFor n rows place
gap_from n rows zero le low high = above_from n rows (λ k x lt. high k x (omega arith) lt)
gap_from n [] (suc place) le low high = absurd (omega arith)
gap_from n (r ∷ rows) (suc place) le low high = (
  low 0 r (omega arith),
  gap_from n rows place (omega arith) (λ k x lt. low (suc k) x (omega arith))
      (λ k x ge lt. high (suc k) x (omega arith) (omega arith)),
)

-- the comparisons with a rank rise along the rows, as a binary search asks
comparisons_rise :
    (n : ℕ) (rows : List Row) → Rises rows
    → IsNonDecreasingBy (λ (x : Row). ordering_index (nat_cmp (rank x.key) n)) rows
comparisons_rise n rows rise i j x le lt = let up = keys_rise rows i j x rise le lt in grind (arith, nat_tests)

-- a binary search by rank ends at its row, or where it would go
pub searched :
    (n : ℕ) (rows : List Row) (r : Result ℕ ℕ) → Rises rows → IsSearchInRange r (length rows)
    → IsBinarySearchResult (λ (x : Row). nat_cmp (rank x.key) n) rows r
    → IfOk r (IsAt n rows) × IfErr r (IsGapFor n rows)
searched n rows (Ok place) rise in_range equal =
    (at_from n rows place rise in_range (λ x. ranked _ n _ (sym (equal x))), tt)
searched n rows (Err place) rise in_range parted =
    let p = parted (comparisons_rise n rows rise) in (
      tt,
      gap_from n rows place in_range (λ k x lt. ranked _ n _ (sym (p.0 k x (omega arith) lt)))
          (λ k x ge lt. ranked _ n _ (sym (p.1 k x ge lt))),
    )

-- the place behind one where a row was found fits a word
pub place_fits : (n : ℕ) (r : Result ℕ ℕ) → IsSearchInRange r n → n < 2 ^ 64 → IfOk r (λ place. place + 1 < 2 ^ 64)
place_fits n (Ok place) within few = omega arith
place_fits n (Err place) within few = tt
