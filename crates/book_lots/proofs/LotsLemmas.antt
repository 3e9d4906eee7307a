-- Checkpoints: what one more entry does to them, and that they lead back.
use Rattle.std.proofs.Common.{◌≡◌, ℕ, ◌+◌, ◌-◌, ◌*◌, ◌/◌, ◌%◌, ◌<◌, ◌≤◌, List, [], ◌∷◌, ◌++◌}
use Rattle.std.proofs.Common.{length, take, get_or, refl, sym, ap, ◌∙◌, subst, arith, ⊎_elim, slice_get, Some}
use Rattle.std.specs.List.{All}
use Rattle.std.proofs.lemmas.Bool.{cases_eq, cases_lt, cond-true, cond-false, eq-eqb, lt-ltb, le-ltb, ne_eqb}
use Rattle.std.proofs.Common.{eqb, ℤ, ◌+ℤ◌, Bool}
use Rattle.std.specs.List.{filter}
use Rattle.std.proofs.lemmas.Int.{ints}
use Rattle.std.proofs.lemmas.List.Elements.{filter-append}
use Rattle.book_lots.specs.Lots.{cost_of, gain_of}
use Rattle.book_lots.specs.Sides.{with_checkpoint}
use Rattle.book_lots.specs.declared.open_lot.OpenLot.{OpenLot}
use Rattle.book_lots.specs.declared.pair.Pair.{Pair}
use Rattle.book_lots.proofs.ShareLemmas.{cost_of-append, gain_of-append}
use Rattle.std.proofs.lemmas.List.{get_or-take, get_or_append_left, get_or_push, length-take, length-take-le, length_push}
use Rattle.std.proofs.lemmas.List.{append-nil, append_assoc, take-append-le, take-take, take_all, take_at, take_more}
use Rattle.book_register.specs.declared.entry.Entry.{Entry}
use Rattle.book_seq.proofs.ListLemmas.{slice_get_or}
use Rattle.book_lots.specs.Lots.{left_before}
use Rattle.book_lots.specs.Sides.{AreCheckpoints, Begins, mark_of}
use Rattle.book_lots.specs.declared.mark.Mark.{Mark}

-- one more entry, where that makes no multiple of 256
pub same_checkpoints : (es : List Entry) (e : Entry) (marks : List Mark) → AreCheckpoints es marks
    → ((length es + 1) % 256 ≡ 0 → ⊥) → AreCheckpoints (es ++ e ∷ []) marks
same_checkpoints es e marks are other =
    let long = length_push es e in
    let count = are.count in
    record {
      count = omega (arith, count, long, other);
      each = λ k d lt. are.each k d lt
          ∙ ap mark_of (sym (take-append-le (256 * (k + 1)) es (e ∷ []) (omega (arith, count, lt))));
    }

-- and where it does
pub more_checkpoints : (es : List Entry) (e : Entry) (marks : List Mark) (mark : Mark) → AreCheckpoints es marks
    → (length es + 1) % 256 ≡ 0 → mark ≡ mark_of (es ++ e ∷ []) → AreCheckpoints (es ++ e ∷ []) (marks ++ mark ∷ [])
more_checkpoints es e marks mark are multiple is =
    let long = length_push es e in
    let longer = length_push marks mark in
    let count = are.count in
    record {
      count = omega (arith, count, long, longer, multiple);
      each = λ k d lt. ⊎_elim
          (λ less. get_or_append_left marks (mark ∷ []) d k less ∙ are.each k d less
          ∙ ap mark_of (sym (take-append-le (256 * (k + 1)) es (e ∷ []) (omega (arith, count, less)))))
          (λ last. (let at : length marks ≡ k = omega (arith, lt, last, longer) in
          get_or_push marks mark d k at ∙ is
          ∙ ap mark_of (sym (take_all (256 * (k + 1)) (es ++ e ∷ [])
          (omega (arith, at, count, long, multiple))))))
          (cases_lt k (length marks));
    }

-- fewer
pub fewer_checkpoints : (es : List Entry) (marks : List Mark) (count : ℕ) → AreCheckpoints es marks
    → count ≤ length marks → AreCheckpoints (take (256 * count) es) (take count marks)
fewer_checkpoints es marks count are le =
    let all = are.count in
    let shorter = length-take (256 * count) es in
    let fewer = length-take count marks in
    record {
      count = omega (arith, all, shorter, fewer, le);
      each = λ k d lt. get_or-take count marks k d (omega (arith, lt, fewer))
          ∙ are.each k d (omega (arith, lt, fewer, le))
          ∙ ap mark_of (sym (take-take (256 * (k + 1)) (256 * count) es (omega (arith, lt, fewer))));
    }

-- ---- the mark of so many first entries leads back to them
pub entries_of_mark : (es : List Entry) (k : ℕ) (mark : Mark) → k ≤ length es → mark ≡ mark_of (take k es)
    → mark.entries ≡ k
entries_of_mark es k mark le is = ap (λ (m : Mark). m.entries) is ∙ length-take-le k es le

pub mark_leads : (es : List Entry) (k : ℕ) (mark : Mark) → k ≤ length es → mark ≡ mark_of (take k es)
    → mark ≡ mark_of (take mark.entries es)
mark_leads es k mark le is = is ∙ ap (λ n. mark_of (take n es)) (sym (entries_of_mark es k mark le is))

-- the mark of a list at the begin of another
pub start_leads : (old new : List Entry) (mark : Mark) → mark ≡ mark_of old → Begins old new
    → (mark.entries ≤ length new) × ((mark ≡ mark_of (take mark.entries new)) × (take mark.entries new ≡ old))
start_leads old new mark is begins =
    let count : mark.entries ≡ length old = ap (λ (m : Mark). m.entries) is in
    let front : take mark.entries new ≡ old =
    ap (λ n. take n new) count ∙ ap (take (length old)) begins.is_longer ∙ take_at old begins.rest (length old) refl in
    let shorter : length (take mark.entries new) ≡ length old = ap length front in
    let least = length-take mark.entries new in
    (omega (arith, count, shorter, least), (is ∙ ap mark_of (sym front), front))

-- ---- what is left
pub left_all : (place count : ℕ) → count ≤ place → left_before place count ≡ count
left_all place count le = cond-false _ _ _ (le-ltb place count le)

pub left_some : (place count : ℕ) → place < count → left_before place count ≡ 256 * (place / 256)
left_some place count lt = cond-true _ _ _ (lt-ltb place count lt)

-- ---- the marks of no entries
pub no_checkpoints : AreCheckpoints [] []
no_checkpoints = record { count = refl; each = λ k d lt. absurd (omega (arith, lt)) }

pub begins_itself : {X : Type 0} (one : List X) → Begins one one
begins_itself one = record { rest = []; is_longer = sym (append-nil one) }

pub begins_pushed : {X : Type 0} (one other : List X) (x : X) → Begins one other → Begins one (other ++ x ∷ [])
begins_pushed one other x begins = record {
  rest = begins.rest ++ x ∷ [];
  is_longer = ap (λ l. l ++ x ∷ []) begins.is_longer ∙ append_assoc one begins.rest (x ∷ []);
}

-- the checkpoint at a count, which for 0 is that of no entries
pub checkpoint_is : (es : List Entry) (marks : List Mark) (count : ℕ) (mark : Mark) → AreCheckpoints es marks
    → (count ≡ 0 → mark ≡ mark_of []) → (1 ≤ count → slice_get marks (count - 1) ≡ Some mark)
    → mark ≡ mark_of (take (256 * count) es)
checkpoint_is es marks count mark are first later =
    ⊎_elim
    (λ some. (let got = slice_get_or marks (count - 1) mark (later some) in
    got.1 ∙ are.each (count - 1) mark got.0
    ∙ ap (λ n. mark_of (take n es)) (let same : 256 * ((count - 1) + 1) ≡ 256 * count = omega (arith, some) in same)))
    (λ none. (let zero_is : count ≡ 0 = omega (arith, none) in
    first zero_is ∙ ap (λ n. mark_of (take (256 * n) es)) (sym zero_is)))
    (cases_lt 0 count)

-- a row of the register
pub row_taken : (rows : List Entry) (k : ℕ) (e : Entry) → slice_get rows k ≡ Some e
    → take (k + 1) rows ≡ take k rows ++ e ∷ []
row_taken rows k e is =
    let got = slice_get_or rows k e is in
    take_more rows k e got.0 ∙ ap (λ (x : Entry). take k rows ++ x ∷ []) (sym got.1)

pub row_small : (P : Entry → Type 0) (rows : List Entry) (k : ℕ) (e : Entry) → All P rows → slice_get rows k ≡ Some e → P e
row_small P rows k e all is =
    let got = slice_get_or rows k e is in subst P (sym got.1) (all k e got.0)

-- the marks after one more entry
pub next_checkpoints : (es : List Entry) (e : Entry) (marks : List Mark) → AreCheckpoints es marks
    → AreCheckpoints (es ++ e ∷ []) (with_checkpoint (es ++ e ∷ []) marks)
next_checkpoints es e marks are =
    let long = length_push es e in
    ⊎_elim
    (λ is. subst (AreCheckpoints (es ++ e ∷ []))
    (sym (cond-true (eqb (length (es ++ e ∷ []) % 256) 0) _ marks (eq-eqb _ _ is)))
    (more_checkpoints es e marks (mark_of (es ++ e ∷ [])) are (omega (arith, long, is)) refl))
    (λ other. subst (AreCheckpoints (es ++ e ∷ []))
    (sym (cond-false (eqb (length (es ++ e ∷ []) % 256) 0) _ marks (ne_eqb _ _ other)))
    (same_checkpoints es e marks are (λ is. other (omega (arith, long, is)))))
    (cases_eq (length (es ++ e ∷ []) % 256) 0)

-- ---- one more pair, one more lot
pub gains_more : (test : Pair → Bool) (all : List Pair) (i : ℕ) (x : Pair) → i < length all → x ≡ get_or all i x
    → gain_of (filter test (take (i + 1) all)) ≡ gain_of (filter test (take i all)) +ℤ gain_of (filter test (x ∷ []))
gains_more test all i x lt is =
    ap (λ l. gain_of (filter test l)) (take_more all i x lt)
    ∙ ap gain_of (filter-append test (take i all) (get_or all i x ∷ []))
    ∙ gain_of-append (filter test (take i all)) (filter test (get_or all i x ∷ []))
    ∙ ap (λ (y : Pair). gain_of (filter test (take i all)) +ℤ gain_of (filter test (y ∷ []))) (sym is)

pub costs_more : (all : List OpenLot) (i : ℕ) (d : OpenLot) → i < length all
    → cost_of (take (i + 1) all) ≡ cost_of (take i all) +ℤ (get_or all i d).cost
costs_more all i d lt =
    ap cost_of (take_more all i d lt) ∙ cost_of-append (take i all) (get_or all i d ∷ [])
    ∙ ap (λ (z : ℤ). cost_of (take i all) +ℤ z) (omega (arith, ints))

-- the sum of no more than all is that of all
pub all_gains_taken : (test : Pair → Bool) (all : List Pair) (i : ℕ) → length all ≤ i
    → gain_of (filter test (take i all)) ≡ gain_of (filter test all)
all_gains_taken test all i le = ap (λ l. gain_of (filter test l)) (take_all i all le)

pub begins_kept : (one marks : List Mark) (es : List Entry) → Begins one marks → Begins one (with_checkpoint es marks)
begins_kept one marks es begins =
    ⊎_elim
    (λ is. subst (Begins one) (sym (cond-true (eqb (length es % 256) 0) _ marks (eq-eqb _ _ is)))
    (begins_pushed one marks (mark_of es) begins))
    (λ other. subst (Begins one) (sym (cond-false (eqb (length es % 256) 0) _ marks (ne_eqb _ _ other))) begins)
    (cases_eq (length es % 256) 0)
