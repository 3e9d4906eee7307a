-- Rising entries are a finite map: what is found in them, also after a value is put or taken, and at which place.
use Rattle.std.proofs.Common.{◌≡◌, ℕ, zero, suc, ◌+◌, ◌<◌, ◌≤◌, eqb, nat_lt, ◌==◌, Bool, true, false, if◌then◌else◌}
use Rattle.std.proofs.Common.{is_none, is_some, List, [], ◌∷◌, length, get_or, set, Some, None, Result, Ok, Err, IfOk}
use Rattle.std.proofs.Common.{IfErr, slice_get, inl, inr, refl, sym, ap, ◌∙◌, subst, arith}
use Rattle.std.specs.List.{insert, remove}
use Rattle.std.specs.List.Sorted.{IsSearchInRange, IsBinarySearchResult, IsNonDecreasingBy}
use Rattle.std.specs.Ordering.{nat_cmp, ordering_index}
use Rattle.std.proofs.lemmas.Cmp.{ranked}
use Rattle.std.proofs.lemmas.Bool.{cases_order}
use Rattle.std.proofs.lemmas.Bool.Decides.{nat_tests}
use Rattle.book_commodity.specs.Table.{AllAbove, Rises, value_of, with_entry, without_entry, IsAt, IsGapFor}

-- what is above a number is above each smaller one
pub above_less : {T : Type 0} (m n : ℕ) (es : List (ℕ × T)) → m ≤ n → AllAbove n es → AllAbove m es
above_less m n [] h a = tt
above_less m n (e ∷ es) h a = (omega (arith, h, a.0), above_less m n es h a.1)

-- a number below all has no value
pub above_value : {T : Type 0} (n : ℕ) (es : List (ℕ × T)) → AllAbove n es → value_of n es ≡ None
above_value n [] a = refl
above_value n (e ∷ es) a = grind (arith, nat_tests, a.0, above_value n es a.1)

-- a value that is put is found under its number, and under each other number what was found before
pub value_of_with :
    {T : Type 0} (m n : ℕ) (v : T) (es : List (ℕ × T))
    → value_of m (with_entry n v es) ≡ (if eqb m n then Some v else value_of m es)
value_of_with m n v [] = refl
value_of_with m n v (e ∷ es) = grind (arith, nat_tests, value_of_with m n v es)

-- after a number is taken, nothing is found under it, and under each other number what was found before
pub value_of_without :
    {T : Type 0} (m n : ℕ) (es : List (ℕ × T)) → Rises es
    → value_of m (without_entry n es) ≡ (if eqb m n then None else value_of m es)
value_of_without m n [] r = grind (arith, nat_tests)
value_of_without m n (e ∷ es) r = grind (arith, nat_tests, value_of_without m n es r.1, above_value e.0 es r.0)

above_with : {T : Type 0} (m n : ℕ) (v : T) (es : List (ℕ × T)) → m < n → AllAbove m es → AllAbove m (with_entry n v es)
above_with m n v [] h a = (h, tt)
above_with m n v (e ∷ es) h a = grind (arith, nat_tests, h, a.0, a.1, above_with m n v es h a.1)

rises_with_by :
    {T : Type 0} (n : ℕ) (v : T) (e : ℕ × T) (es : List (ℕ × T)) (less same : Bool) → nat_lt n e.0 ≡ less
    → (n == e.0) ≡ same → Rises (e ∷ es) → Rises (with_entry n v es)
    → Rises (if less then (n, v) ∷ e ∷ es else (if same then (n, v) ∷ es else e ∷ with_entry n v es))
rises_with_by n v e es true same lt eq r more =
    let below : n < e.0 = grind (arith, nat_tests) in ((below, above_less n e.0 es (omega (arith, below)) r.0), r)
rises_with_by n v e es false true lt eq r more =
    let here : n ≡ e.0 = grind (arith, nat_tests) in (rw here r.0, r.1)
rises_with_by n v e es false false lt eq r more =
    let past : e.0 < n = grind (arith, nat_tests) in (above_with e.0 n v es past r.0, more)

pub rises_with : {T : Type 0} (n : ℕ) (v : T) (es : List (ℕ × T)) → Rises es → Rises (with_entry n v es)
rises_with n v [] r = (tt, tt)
rises_with n v (e ∷ es) r = rises_with_by n v e es (nat_lt n e.0) (n == e.0) refl refl r (rises_with n v es r.1)

above_without : {T : Type 0} (m n : ℕ) (es : List (ℕ × T)) → AllAbove m es → AllAbove m (without_entry n es)
above_without m n [] a = tt
above_without m n (e ∷ es) a = grind (arith, nat_tests, a.0, a.1, above_without m n es a.1)

rises_without_by :
    {T : Type 0} (n : ℕ) (e : ℕ × T) (es : List (ℕ × T)) (same : Bool) → Rises (e ∷ es) → Rises (without_entry n es)
    → Rises (if same then es else e ∷ without_entry n es)
rises_without_by n e es true r more = r.1
rises_without_by n e es false r more = (above_without e.0 n es r.0, more)

pub rises_without : {T : Type 0} (n : ℕ) (es : List (ℕ × T)) → Rises es → Rises (without_entry n es)
rises_without n [] r = tt
rises_without n (e ∷ es) r = rises_without_by n e es (n == e.0) r (rises_without n es r.1)

-- rising entries with the same values under all numbers are the same entries
same_first :
    {T : Type 0} (m n : ℕ) (x y : T) (ds es : List (ℕ × T)) → AllAbove m ds → AllAbove n es
    → ((k : ℕ) → value_of k ((m, x) ∷ ds) ≡ value_of k ((n, y) ∷ es)) → (m ≡ n) × (x ≡ y)
same_first {T} m n x y ds es a b h =
    elim (cases_order m n) [
      | inl same ↦ (same, let here = h m in grind (arith, nat_tests))
      | inr (inl less) ↦ absurd (let here = h m in let none = above_value m es (above_less m n es (omega arith) b) in
          grind (arith, nat_tests))
      | inr (inr more) ↦ absurd (let here = h n in let none = above_value n ds (above_less n m ds (omega arith) a) in
          grind (arith, nat_tests))
    ]

same_rest :
    {T : Type 0} (d : ℕ × T) (ds es : List (ℕ × T)) → AllAbove d.0 ds → AllAbove d.0 es
    → ((m : ℕ) → value_of m (d ∷ ds) ≡ value_of m (d ∷ es)) → (m : ℕ) → value_of m ds ≡ value_of m es
same_rest d ds es a b h m =
    let here = h m in
    let left = above_value d.0 ds a in
    let right = above_value d.0 es b in
    grind (arith, nat_tests)

pub same_entries :
    {T : Type 0} (ds es : List (ℕ × T)) → Rises ds → Rises es → ((m : ℕ) → value_of m ds ≡ value_of m es) → ds ≡ es
same_entries [] [] r s h = refl
same_entries [] (e ∷ es) r s h = let here = h e.0 in absurd (grind (arith, nat_tests))
same_entries (d ∷ ds) [] r s h = let here = h d.0 in absurd (grind (arith, nat_tests))
same_entries {T} (d ∷ ds) (e ∷ es) r s h =
    let parts = same_first d.0 e.0 d.1 e.1 ds es r.0 s.0 h in
    let first : d ≡ e = ap (λ (n : ℕ). (n, d.1)) parts.0 ∙ ap (λ (x : T). (e.0, x)) parts.1 in
    let above = subst (λ (x : ℕ × T). AllAbove x.0 es) (sym first) s.0 in
    let rest = same_entries ds es r.1 s.1
    (same_rest d ds es r.0 above (λ m. h m ∙ ap (λ (x : ℕ × T). value_of m (x ∷ es)) (sym first))) in
    ap (λ (x : ℕ × T). x ∷ ds) first ∙ ap (λ (l : List (ℕ × T)). e ∷ l) rest

-- putting under a new number makes the entries longer by one
pub length_with :
    {T : Type 0} (n : ℕ) (v : T) (es : List (ℕ × T)) → Rises es
    → length (with_entry n v es) ≡ length es + (if is_none (value_of n es) then 1 else 0)
length_with n v [] r = refl
length_with n v (e ∷ es) r =
    grind (
      arith,
      nat_tests,
      length_with n v es r.1,
      λ (lt : n < e.0). above_value n es
          (above_less n e.0 es (omega arith) r.0),
    )

-- taking what is there makes them shorter by one
pub length_without :
    {T : Type 0} (n : ℕ) (es : List (ℕ × T))
    → length es ≡ length (without_entry n es) + (if is_some (value_of n es) then 1 else 0)
length_without n [] = refl
length_without n (e ∷ es) = grind (arith, nat_tests, length_without n es)

above_place :
    {T : Type 0} (n : ℕ) (es : List (ℕ × T)) (place : ℕ) (x : ℕ × T) → AllAbove n es → slice_get es place ≡ Some x
    → n < x.0
above_place n [] place x a e = absurd cc
above_place n (y ∷ es) zero x a e = let same : y ≡ x = cc in rw (← same) a.0
above_place n (y ∷ es) (suc place) x a e = above_place n es place x a.1 e

-- the value of the entry at a place stands under the number of that entry
pub value_of_place :
    {T : Type 0} (es : List (ℕ × T)) (place : ℕ) (x : ℕ × T) → Rises es → slice_get es place ≡ Some x
    → value_of x.0 es ≡ Some x.1
value_of_place [] place x r e = absurd cc
value_of_place (y ∷ es) zero x r e =
    let same : y ≡ x = cc in rw (← same) (grind (arith, nat_tests))
value_of_place (y ∷ es) (suc place) x r e =
    grind (arith, nat_tests, above_place y.0 es place x r.0 e, value_of_place es place x r.1 e)

-- ---- at the place of an entry
pub at_below : {T : Type 0} (n : ℕ) (es : List (ℕ × T)) (place : ℕ) → IsAt n es place → place < length es
at_below n [] place h = absurd h
at_below n (e ∷ es) zero h = omega arith
at_below n (e ∷ es) (suc place) h = omega (arith, at_below n es place h.1)

pub at_number :
    {T : Type 0} (n : ℕ) (es : List (ℕ × T)) (place : ℕ) (x : ℕ × T) → IsAt n es place → x ≡ get_or es place x → x.0 ≡ n
at_number n [] place x h e = absurd h
at_number n (y ∷ es) zero x h e = ap (λ (z : ℕ × _). z.0) e ∙ h
at_number n (y ∷ es) (suc place) x h e = at_number n es place x h.1 e

pub at_value :
    {T : Type 0} (n : ℕ) (es : List (ℕ × T)) (place : ℕ) (x : ℕ × T) → IsAt n es place → x ≡ get_or es place x
    → value_of n es ≡ Some x.1
at_value n [] place x h e = absurd h
at_value n (y ∷ es) zero x h e = grind (arith, nat_tests, h)
at_value n (y ∷ es) (suc place) x h e = grind (arith, nat_tests, h.0, at_value n es place x h.1 e)

pub at_with :
    {T : Type 0} (n : ℕ) (v : T) (es : List (ℕ × T)) (place : ℕ) → IsAt n es place
    → set es place (n, v) ≡ with_entry n v es
at_with n v [] place h = absurd h
at_with n v (y ∷ es) zero h = grind (arith, nat_tests, h)
at_with n v (y ∷ es) (suc place) h = grind (arith, nat_tests, h.0, at_with n v es place h.1)

pub at_without :
    {T : Type 0} (n : ℕ) (es : List (ℕ × T)) (place : ℕ) → IsAt n es place → remove es place ≡ without_entry n es
at_without n [] place h = absurd h
at_without n (y ∷ es) zero h = grind (arith, nat_tests, h)
at_without n (y ∷ es) (suc place) h = grind (arith, nat_tests, h.0, at_without n es place h.1)

-- ---- at the place where an entry would go
pub gap_below : {T : Type 0} (n : ℕ) (es : List (ℕ × T)) (place : ℕ) → IsGapFor n es place → place ≤ length es
gap_below n es zero h = omega arith
gap_below n [] (suc place) h = absurd h
gap_below n (e ∷ es) (suc place) h = omega (arith, gap_below n es place h.1)

pub gap_value : {T : Type 0} (n : ℕ) (es : List (ℕ × T)) (place : ℕ) → IsGapFor n es place → value_of n es ≡ None
gap_value n es zero h = above_value n es h
gap_value n [] (suc place) h = absurd h
gap_value n (e ∷ es) (suc place) h = grind (arith, nat_tests, h.0, gap_value n es place h.1)

pub gap_with :
    {T : Type 0} (n : ℕ) (v : T) (es : List (ℕ × T)) (place : ℕ) → IsGapFor n es place
    → insert es place (n, v) ≡ with_entry n v es
gap_with n v [] zero h = refl
gap_with n v (e ∷ es) zero h = grind (arith, nat_tests, h.0)
gap_with n v [] (suc place) h = absurd h
gap_with n v (e ∷ es) (suc place) h = grind (arith, nat_tests, h.0, gap_with n v es place h.1)

above_without_entry : {T : Type 0} (n : ℕ) (es : List (ℕ × T)) → AllAbove n es → without_entry n es ≡ es
above_without_entry n [] a = refl
above_without_entry n (e ∷ es) a = grind (arith, nat_tests, a.0, above_without_entry n es a.1)

pub gap_without : {T : Type 0} (n : ℕ) (es : List (ℕ × T)) (place : ℕ) → IsGapFor n es place → without_entry n es ≡ es
gap_without n es zero h = above_without_entry n es h
gap_without n [] (suc place) h = absurd h
gap_without n (e ∷ es) (suc place) h = grind (arith, nat_tests, h.0, gap_without n es place h.1)

-- what a place says of the values and of the entries with a value put or taken
pub ruleset places = (
  at_below,
  at_number,
  at_value,
  at_with,
  at_without,
  gap_below,
  gap_value,
  gap_with,
  gap_without,
  rises_with,
  rises_without,
)

-- ---- what a binary search finds
above_at :
    {T : Type 0} (n : ℕ) (es : List (ℕ × T)) (i : ℕ) (x : ℕ × T) → AllAbove n es → i < length es → n < (get_or es i x).0
above_at n [] i x a lt = absurd (omega arith)
above_at n (e ∷ es) zero x a lt = a.0
above_at n (e ∷ es) (suc i) x a lt = above_at n es i x a.1 (omega arith)

numbers_rise :
    {T : Type 0} (es : List (ℕ × T)) (i j : ℕ) (x : ℕ × T) → Rises es → i ≤ j → j < length es
    → (get_or es i x).0 ≤ (get_or es j x).0
numbers_rise [] i j x r le lt = absurd (omega arith)
numbers_rise (e ∷ es) zero zero x r le lt = omega arith
numbers_rise (e ∷ es) zero (suc j) x r le lt = omega (arith, above_at e.0 es j x r.0 (omega arith))
numbers_rise (e ∷ es) (suc i) zero x r le lt = absurd (omega arith)
numbers_rise (e ∷ es) (suc i) (suc j) x r le lt = numbers_rise es i j x r.1 (omega arith) (omega arith)

at_from :
    {T : Type 0} (n : ℕ) (es : List (ℕ × T)) (place : ℕ) → Rises es → place < length es
    → ((x : ℕ × T) → (get_or es place x).0 ≡ n) → IsAt n es place
at_from n [] place r lt h = absurd (omega arith)
at_from n (e ∷ es) zero r lt h = h e
at_from n (e ∷ es) (suc place) r lt h =
    let past = above_at e.0 es place e r.0 (omega arith) in
    (omega (arith, past, h e), at_from n es place r.1 (omega arith) h)

above_from :
    {T : Type 0} (n : ℕ) (es : List (ℕ × T)) → ((k : ℕ) (x : ℕ × T) → k < length es → n < (get_or es k x).0)
    → AllAbove n es
above_from n [] h = tt
above_from n (e ∷ es) h = (h 0 e (omega arith), above_from n es (λ k x lt. h (suc k) x (omega arith)))

gap_from :
    {T : Type 0} (n : ℕ) (es : List (ℕ × T)) (place : ℕ) → place ≤ length es
    → ((k : ℕ) (x : ℕ × T) → k < place → (get_or es k x).0 < n)
    → ((k : ℕ) (x : ℕ × T) → place ≤ k → k < length es → n < (get_or es k x).0) → IsGapFor n es place
gap_from n es zero le low high = above_from n es (λ k x lt. high k x (omega arith) lt)
gap_from n [] (suc place) le low high = absurd (omega arith)
gap_from n (e ∷ es) (suc place) le low high = (
  low 0 e (omega arith),
  gap_from n es place (omega arith) (λ k x lt. low (suc k) x (omega arith))
      (λ k x ge lt. high (suc k) x (omega arith) (omega arith)),
)

-- the comparisons with a number rise along the entries, as a binary search asks
comparisons_rise :
    {T : Type 0} (n : ℕ) (es : List (ℕ × T)) → Rises es
    → IsNonDecreasingBy (λ (x : ℕ × T). ordering_index (nat_cmp x.0 n)) es
comparisons_rise n es r i j x le lt = let up = numbers_rise es i j x r le lt in grind (arith, nat_tests)

-- a binary search by number ends at its entry, or where it would go
pub searched :
    {T : Type 0} (n : ℕ) (es : List (ℕ × T)) (r : Result ℕ ℕ) → Rises es → IsSearchInRange r (length es)
    → IsBinarySearchResult (λ (x : ℕ × T). nat_cmp x.0 n) es r → IfOk r (IsAt n es) × IfErr r (IsGapFor n es)
searched n es (Ok place) r in_range equal = (at_from n es place r in_range (λ x. ranked _ n _ (sym (equal x))), tt)
searched n es (Err place) r in_range parted =
    let p = parted (comparisons_rise n es r) in (
      tt,
      gap_from n es place in_range (λ k x lt. ranked _ n _ (sym (p.0 k x (omega arith) lt)))
          (λ k x ge lt. ranked _ n _ (sym (p.1 k x ge lt))),
    )
