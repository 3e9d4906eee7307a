-- The leaves that restore a book are allowed in the book after the others: each thing that they delete is there, since
-- keys rise, and their keys are the same.
use Rattle.std.proofs.Common.{◌≡◌, ℕ, suc, ◌<◌, ◌≤◌, ◌-◌, ◌^◌, min, eqb, nat_lt, ◌==◌, Bool, true, false, ◌&&◌, ◌||◌}
use Rattle.std.proofs.Common.{if◌then◌else◌, List, [], ◌∷◌, map, Option, Some, None, option_map, is_none, ◌⊎◌}
use Rattle.std.proofs.Common.{inl, inr, refl, ap, ◌∙◌, arith}
use Rattle.std.proofs.lemmas.Bool.Decides.{nat_tests}
use Rattle.book_commodity.specs.Rules.{broken_where}
use Rattle.book_commodity.proofs.ListLemmas.{mapped_none}
use Rattle.book_undo.specs.Book.{Book, IsRising, thing_at, with_currency, with_thing, without_thing}
use Rattle.book_undo.specs.Edit.{edited, Leaf, OfCurrency, OfPut, OfGone, leaves, depth}
use Rattle.book_undo.specs.Edit.{Key, key_at, key_of}
use Rattle.book_undo.specs.EditRules.{first_missing, is_above, first_unordered, out_of_order, IsAllowed}
use Rattle.book_undo.specs.Exact.{any_touches}
use Rattle.book_undo.specs.Inverse.{leaf_restoring, leaf_back, LeadsBack}
use Rattle.book_undo.specs.Thing.{kind_of, row_kind}
use Rattle.book_undo.specs.declared.edit.Edit.{Edit}
use Rattle.book_undo.specs.declared.rule.EditRule.{EditRule}
use Rattle.book_undo.specs.declared.rule.EditRule.TheVariants.{Missing, OutOfOrder, TooDeep}
use Rattle.book_undo.specs.declared.thing.Thing.{Thing}
use Rattle.book_undo.specs.declared.thing.ThingKind.{ThingKind}
use Rattle.book_undo.proofs.BookLaws.{is_key, thing_at-with_thing, rising-with, rising-without}
use Rattle.book_undo.proofs.EditLaws.{after_leaves, edited-leaves, rising_after}
use Rattle.book_undo.proofs.EditLaws.{untouched, key-back, leaves_back}
use Rattle.book_undo.proofs.ThreeRules.{three_kept, three_none}

-- A key is the number m of a kind, or above it.
abbrev pub NotBelow : ℕ → ℕ → Key → Type 0
NotBelow kind number key = (kind < key.kind) ⊎ ((kind ≡ key.kind) × (number ≤ key.number))

abbrev pub Past : ℕ → ℕ → Key → Type 0
Past kind number key = (kind < key.kind) ⊎ ((kind ≡ key.kind) × (number < key.number))

above_by :
    (key before : Key) (s t u : Bool) → nat_lt before.kind key.kind ≡ s → (before.kind == key.kind) ≡ t
    → nat_lt before.number key.number ≡ u → (s || (t && u)) ≡ true → Past before.kind before.number key
above_by key before true t u e f g up = inl (grind (arith, nat_tests))
above_by key before false true true e f g up = inr (grind (arith, nat_tests), grind (arith, nat_tests))
above_by key before false true false e f g up = absurd cc
above_by key before false false u e f g up = absurd cc

past_further :
    (kind number : ℕ) (key before : Key) → NotBelow kind number before → Past before.kind before.number key
    → Past kind number key
past_further kind number key before (inl ge) (inl up) = inl (omega arith)
past_further kind number key before (inl ge) (inr (same, up)) = inl (omega arith)
past_further kind number key before (inr (same, ge)) (inl up) = inl (omega arith)
past_further kind number key before (inr (same, ge)) (inr (kinds, up)) = inr (same ∙ kinds, omega arith)

pub past_above :
    (kind number : ℕ) (key before : Key) → NotBelow kind number before → is_above key before ≡ true
    → Past kind number key
past_above kind number key before ge up =
    past_further kind number key before ge (above_by key before _ _ _ refl refl refl up)

pub past_not_below : (kind number : ℕ) (key : Key) → Past kind number key → NotBelow kind number key
past_not_below kind number key (inl less) = inl less
past_not_below kind number key (inr (same, less)) = inr (same, omega arith)

past_untouched :
    (kind number : ℕ) (key : Key) → Past kind number key
    → ((kind == key.kind) && eqb number key.number) ≡ false
past_untouched kind number key (inl less) = grind (arith, nat_tests)
past_untouched kind number key (inr (same, less)) = grind (arith, nat_tests)

-- where keys rise, each leaf is above the one before, and the rest rises from it
pub rises_first :
    (before : Key) (l : Leaf) (ls : List Leaf) → first_unordered before (l ∷ ls) ≡ None
    → (is_above (key_of l) before ≡ true) × (first_unordered (key_of l) ls ≡ None)
rises_first before l ls e = by_test (is_above (key_of l) before) (first_unordered (key_of l) ls) e
  where
    by_test : (t : Bool) (o : Option ℕ) → (if t then option_map (λ place. suc place) o else Some 0) ≡ None
        → (t ≡ true) × (o ≡ None)
    by_test true None e = (refl, refl)
    by_test true (Some x) e = absurd cc
    by_test false o e = absurd cc

-- leaves whose keys rise from a key on don't change what is not above it
pub above_untouched :
    (k : ThingKind) (m : ℕ) (before : Key) (ls : List Leaf) → NotBelow (row_kind k) m before
    → first_unordered before ls ≡ None → any_touches k m ls ≡ false
above_untouched k m before [] ge e = refl
above_untouched k m before (l ∷ ls) ge e =
    let both = rises_first before l ls e in
    let past = past_above (row_kind k) m (key_of l) before ge both.0 in
    let rest = above_untouched k m (key_of l) ls (past_not_below (row_kind k) m (key_of l) past) both.1 in
    ap (λ (t : Bool). t || any_touches k m ls) (past_untouched (row_kind k) m (key_of l) past) ∙ rest

restoring_there :
    (book : Book) (k : ThingKind) (n : ℕ) (o : Option Thing) (more : List Leaf) → first_missing book more ≡ None
    → (o ≡ None → is_none (thing_at k n book) ≡ false) → first_missing book (leaf_restoring k n o ∷ more) ≡ None
restoring_there book k n (Some t) more rest h = rest
restoring_there book k n None more rest h =
    ap (λ (t : Bool). if t then Some (Missing k n) else first_missing book more) (h refl) ∙ rest

pub missing_first :
    (b : Book) (k : ThingKind) (n : ℕ) (ls : List Leaf) → first_missing b (OfGone k n ∷ ls) ≡ None
    → (is_none (thing_at k n b) ≡ false) × (first_missing b ls ≡ None)
missing_first b k n ls e = by_test (is_none (thing_at k n b)) (first_missing b ls) e
  where
    by_test : (t : Bool) (o : Option EditRule) → (if t then Some (Missing k n) else o) ≡ None
        → (t ≡ false) × (o ≡ None)
    by_test true o e = absurd cc
    by_test false o e = (refl, e)

key_itself : (k : ThingKind) (n : ℕ) → is_key k n k n ≡ true
key_itself k n = grind (arith, nat_tests)

there_back :
    (b : Book) (before : Key) (ls : List Leaf) (now : Book) → IsRising now → first_unordered before ls ≡ None
    → first_missing b ls ≡ None → first_missing (after_leaves ls now) (map (leaf_back b) ls) ≡ None
there_back b before [] now r up there = refl
there_back b before (OfCurrency c ∷ ls) now r up there =
    there_back b (key_at 1 0) ls (with_currency c now) (rising_after (OfCurrency c) now r)
    (rises_first before (OfCurrency c) ls up).1 there
there_back b before (OfPut n t ∷ ls) now r up there =
    let k = kind_of t in
    let next = with_thing n t now in
    let rises : IsRising next = rising-with n t now r in
    let more = (rises_first before (OfPut n t) ls up).1 in
    let rest = there_back b (key_at (row_kind k) n) ls next rises more there in
    let past = above_untouched k n (key_at (row_kind k) n) ls (inr (refl, omega arith)) more in
    let stays = untouched k n ls next rises past in
    restoring_there (after_leaves ls next) k n (thing_at k n b) (map (leaf_back b) ls) rest
    (λ _. ap is_none (stays ∙ thing_at-with_thing k n n t now)
    ∙ ap (λ (s : Bool). is_none (if s then Some t else thing_at k n now)) (key_itself k n))
there_back b before (OfGone k n ∷ ls) now r up there =
    let next = without_thing k n now in
    let rises : IsRising next = rising-without k n now r in
    let both = missing_first b k n ls there in
    let rest = there_back b (key_at (row_kind k) n) ls next rises (rises_first before (OfGone k n) ls up).1 both.1 in
    restoring_there (after_leaves ls next) k n (thing_at k n b) (map (leaf_back b) ls) rest
    (λ none. absurd (let is = ap is_none none in let gone = both.0 in cc))

-- the place of the first leaf out of order, from whether the first leaf is in order and from the place among those
-- behind it
abbrev from : Bool → Option ℕ → Option ℕ
from above behind = if above then option_map (λ place. suc place) behind else Some 0

-- the leaves that restore have the same keys
order_back :
    (b : Book) (before : Key) (ls : List Leaf)
    → first_unordered before (map (leaf_back b) ls) ≡ first_unordered before ls
order_back b before [] = refl
order_back b before (l ∷ ls) =
    ap (λ (key : Key). from (is_above key before) (first_unordered key (map (leaf_back b) ls))) (key-back b l)
    ∙ ap (from (is_above (key_of l) before)) (order_back b (key_of l) ls)

-- an edit of the same form whose leaves restore what the book has at the edit's keys leads back
pub leads_back :
    (b : Book) (e f : Edit) → IsRising b → IsAllowed b e → leaves f ≡ map (leaf_back b) (leaves e) → depth f ≡ depth e
    → LeadsBack b e f
leads_back b e f r allowed same deep =
    let named : Option ℕ → Option EditRule = option_map (λ place. OutOfOrder (min place (2 ^ 64 - 1))) in
    let deeper : ℕ → Option EditRule = λ d. broken_where (nat_lt 8 d) TooDeep in
    let kept = three_kept (first_missing b (leaves e)) (out_of_order (leaves e)) (deeper (depth e)) allowed in
    let of_place : ℕ → EditRule = λ place. OutOfOrder (min place (2 ^ 64 - 1)) in
    let up = mapped_none of_place (first_unordered (key_at 0 0) (leaves e)) kept.1 in
    let after = edited-leaves e b in
    let there = ap (λ (c : Book). first_missing c (leaves f)) after
    ∙ ap (first_missing (after_leaves (leaves e) b)) same ∙ there_back b (key_at 0 0) (leaves e) b r up kept.0 in
    let order = ap out_of_order same ∙ ap named (order_back b (key_at 0 0) (leaves e) ∙ up) in
    record {
      allowed =
          three_none (first_missing (edited e b) (leaves f)) (out_of_order (leaves f)) (deeper (depth f)) there order
          (ap deeper deep ∙ kept.2);
      same =
          edited-leaves f (edited e b) ∙ ap (λ (ls : List Leaf). after_leaves ls (edited e b)) same
          ∙ ap (after_leaves (map (leaf_back b) (leaves e))) after ∙ leaves_back b (leaves e) r;
    }

deeper_than : (d : ℕ) (t : Bool) → nat_lt 8 d ≡ t → broken_where t TooDeep ≡ None → d ≤ 8
deeper_than d true e none = absurd cc
deeper_than d false e none = grind (arith, nat_tests)

-- no more than eight lists of an allowed edit stand in one another
pub allowed_depth : (b : Book) (e : Edit) → IsAllowed b e → depth e ≤ 8
allowed_depth b e allowed =
    let deeper = broken_where (nat_lt 8 (depth e)) TooDeep in
    deeper_than (depth e) (nat_lt 8 (depth e)) refl
    (three_kept (first_missing b (leaves e)) (out_of_order (leaves e)) deeper allowed).2
