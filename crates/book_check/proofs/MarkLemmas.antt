-- Marks of reconciliations, against the keys by which they are found.
use Rattle.std.proofs.Common.{◌≡◌, ℕ, ◌+◌, ◌<◌, ℤ, ◌==◌, Bool, true, false, ◌&&◌, ◌||◌, List, [], ◌∷◌, take, length}
use Rattle.std.proofs.Common.{Some, slice_get, get_or, refl, sym, ap, ◌∙◌, arith}
use Rattle.std.specs.List.{list_any}
use Rattle.std.specs.Cmp.{tied_then, unsigned_tied}
use Rattle.std.specs.Ordering.{is_eq, int_eq, int_cmp, nat_cmp, ordering_then}
use Rattle.std.proofs.lemmas.Bool.Decides.{nat_tests}
use Rattle.std.proofs.lemmas.List.Folds.{list_any_more}
use Rattle.book_commodity.specs.Table.{AllAbove, Rises, value_of}
use Rattle.book_splits.specs.declared.reconciliation.MarkedSplit.{MarkedSplit}
use Rattle.book_splits.specs.declared.reconciliation.Recon.{Recon}
use Rattle.book_check.specs.Marks.{MarkKey, is_listed, is_made, is_made_by, mark_cmp}
use Rattle.book_check.specs.Seen.{Adds, is_seen}
use Rattle.book_check.proofs.AnyLemmas.{any_next, or_false, or_swap}

not_made :
    (n i : ℕ) (q : ℤ) (es : List (ℕ × Recon)) → AllAbove n es → is_made es (n, i, q) ≡ false
not_made n i q [] above = refl
not_made n i q (e ∷ es) above = grind (arith, nat_tests, above.0, not_made n i q es above.1)

made_by_number :
    (n i : ℕ) (q : ℤ) (x : ℕ × Recon) (es : List (ℕ × Recon)) (r : Recon) (same : Bool) → (n == x.0) ≡ same
    → Rises (x ∷ es) → value_of n (x ∷ es) ≡ Some r
    → (value_of n es ≡ Some r → is_made es (n, i, q) ≡ is_listed i q r.marked)
    → is_made (x ∷ es) (n, i, q) ≡ is_listed i q r.marked
made_by_number n i q x es r true same rise e more =
    let here : n ≡ x.0 = grind (arith, nat_tests) in
    let there : x.1 ≡ r = grind (arith, nat_tests) in
    let none : is_made es (n, i, q) ≡ false = rw here (not_made x.0 i q es rise.0) in
    let as_made = ap (λ t. (t && is_listed i q x.1.marked) || is_made es (n, i, q)) (equal x.0 n (sym here)) in
    as_made ∙ ap (λ t. is_listed i q x.1.marked || t) none ∙ or_false (is_listed i q x.1.marked)
    ∙ ap (λ (y : Recon). is_listed i q y.marked) there
  where
    equal : (a b : ℕ) → a ≡ b → (a == b) ≡ true
    equal a b e = grind (arith, nat_tests)
made_by_number n i q x es r false apart rise e more =
    let there : value_of n es ≡ Some r = grind (arith, nat_tests) in
    let other : (x.0 == n) ≡ false = grind (arith, nat_tests) in
    ap (λ t. (t && is_listed i q x.1.marked) || is_made es (n, i, q)) other ∙ more there

-- a mark by the number of a reconciliation that is there is in its list
pub made_of :
    (n i : ℕ) (q : ℤ) (es : List (ℕ × Recon)) (r : Recon) → Rises es → value_of n es ≡ Some r
    → is_made es (n, i, q) ≡ is_listed i q r.marked
made_of n i q [] r rise e = absurd cc
made_of n i q (x ∷ es) r rise e = made_by_number n i q x es r (n == x.0) refl rise e (made_of n i q es r rise.1)

-- a mark compares equal to the marks with its parts
pub mark_is :
    (n s : ℕ) (q : ℤ) (key : MarkKey)
    → is_eq (mark_cmp (n, s, q) key) ≡ ((n == key.0) && ((s == key.1) && int_eq q key.2))
mark_is n s q key =
    sym (tied_then (ordering_then (nat_cmp n key.0) (nat_cmp s key.1)) (int_cmp q key.2))
    ∙ ap (λ t. t && int_eq q key.2) (sym (tied_then (nat_cmp n key.0) (nat_cmp s key.1)))
    ∙ ap (λ t. (t && is_eq (nat_cmp s key.1)) && int_eq q key.2) (unsigned_tied n key.0)
    ∙ ap (λ t. ((n == key.0) && t) && int_eq q key.2) (unsigned_tied s key.1)
    ∙ grouped (n == key.0) (s == key.1) (int_eq q key.2)
  where
    grouped : (a b c : Bool) → ((a && b) && c) ≡ (a && (b && c))
    grouped true b c = refl
    grouped false b c = refl

shuffled :
    (here listed found seen : Bool)
    → ((here && found) || ((here && listed) || seen)) ≡ ((here && (listed || found)) || seen)
shuffled true true true seen = refl
shuffled true true false seen = refl
shuffled true false true seen = refl
shuffled true false false seen = refl
shuffled false listed found seen = refl

-- one marked split more
pub mark_added :
    (n : ℕ) (marked : List MarkedSplit) (i : ℕ) (d : MarkedSplit) (begun old new : List MarkKey) (added : MarkKey)
    → i < length marked → added ≡ (n, (get_or marked i d).split, (get_or marked i d).quantity)
    → ((key : MarkKey) → is_seen mark_cmp old key ≡ (is_made_by n (take i marked) key || is_seen mark_cmp begun key))
    → Adds mark_cmp old added new → (key : MarkKey)
    → is_seen mark_cmp new key ≡ (is_made_by n (take (i + 1) marked) key || is_seen mark_cmp begun key)
mark_added n marked i d begun old new added below is so_far adds key =
    let item = get_or marked i d in
    let test : MarkedSplit → Bool = λ (m : MarkedSplit). (m.split == key.1) && int_eq m.quantity key.2 in
    adds key
    ∙ ap (λ (k : MarkKey). is_eq (mark_cmp k key) || is_seen mark_cmp old key) is
    ∙ ap (λ t. t || is_seen mark_cmp old key) (mark_is n item.split item.quantity key)
    ∙ ap (λ t. ((n == key.0) && test item) || t) (so_far key)
    ∙ shuffled (n == key.0) (list_any test (take i marked)) (test item) (is_seen mark_cmp begun key)
    ∙ ap (λ t. ((n == key.0) && t) || is_seen mark_cmp begun key) (sym (list_any_more test marked i d below))

-- the marks of one reconciliation more
pub made_next :
    (es : List (ℕ × Recon)) (i n : ℕ) (r : Recon) (old new : List MarkKey) → slice_get es i ≡ Some (n, r)
    → ((key : MarkKey) → is_seen mark_cmp old key ≡ is_made (take i es) key)
    → ((key : MarkKey) → is_seen mark_cmp new key ≡ (is_made_by n r.marked key || is_seen mark_cmp old key))
    → (key : MarkKey) → is_seen mark_cmp new key ≡ is_made (take (i + 1) es) key
made_next es i n r old new there so_far added key =
    added key ∙ ap (λ t. is_made_by n r.marked key || t) (so_far key)
    ∙ or_swap (is_made_by n r.marked key) (is_made (take i es) key)
    ∙ sym (any_next (λ (e : ℕ × Recon). is_made_by e.0 e.1.marked key) es i (n, r) there)
