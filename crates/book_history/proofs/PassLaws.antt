-- An edit that may be applied leads to the same book in two passes over its leaves as in one: the keys of its leaves
-- rise, so that no two of them change the same thing.
use Rattle.std.proofs.Common.{◌≡◌, ℕ, Bool, true, false, ◌&&◌, if◌then◌else◌, List, [], ◌∷◌, ◌++◌, Option}
use Rattle.std.proofs.Common.{None, inl, inr, refl, sym, ap, subst, ◌∙◌, arith}
use Rattle.std.specs.Prelude.{⊤}
use Rattle.std.proofs.lemmas.Bool.Decides.{nat_tests}
use Rattle.book_undo.specs.Book.{Book, IsRising, thing_at}
use Rattle.book_undo.specs.Edit.{Key, Leaf, OfCurrency, OfPut, OfGone, edited, key_at, key_of, leaves}
use Rattle.book_undo.specs.EditRules.{IsAllowed, first_unordered}
use Rattle.book_undo.specs.Exact.{touches}
use Rattle.book_undo.specs.declared.edit.Edit.{Edit}
use Rattle.book_undo.specs.declared.thing.Thing.{Thing}
use Rattle.book_undo.specs.declared.thing.ThingKind.{ThingKind}
use Rattle.book_undo.proofs.BookLaws.{currency-with, currency-without, same_book}
use Rattle.book_undo.proofs.EditLaws.{after_leaf, after_leaves, edited-leaves, given, rising_after, thing_after}
use Rattle.book_undo.proofs.ExactLaws.{allowed_order}
use Rattle.book_undo.proofs.InverseLaws.{Past, past_above, rises_first}
use Rattle.book_history.specs.Passes.{changed, edit_of, freed, frees_line}

-- ---- keys that are above others

above_further :
    (kind number : ℕ) (key other : Key) → Past kind number key → Past key.kind key.number other
    → Past kind number other
above_further kind number key other (inl a) (inl b) = inl (omega arith)
above_further kind number key other (inl a) (inr (same, b)) = inl (omega arith)
above_further kind number key other (inr (same, a)) (inl b) = inl (omega arith)
above_further kind number key other (inr (same, a)) (inr (kinds, b)) = inr (same ∙ kinds, omega arith)

-- Each key of some leaves is above one.
abbrev AllPast : Key → List Leaf → Type 0
AllPast before [] = ⊤
AllPast before (leaf ∷ more) = Past before.kind before.number (key_of leaf) × AllPast before more

all_further :
    (before key : Key) (ls : List Leaf) → Past before.kind before.number key → AllPast key ls → AllPast before ls
all_further before key [] past all = tt
all_further before key (l ∷ ls) past all = (
  above_further before.kind before.number key (key_of l) past all.0,
  all_further before key ls past all.1,
)

-- keys that rise from one on are above it
all_past : (before : Key) (ls : List Leaf) → first_unordered before ls ≡ None → AllPast before ls
all_past before [] up = tt
all_past before (l ∷ ls) up =
    let both = rises_first before l ls up in
    let past = past_above before.kind before.number (key_of l) before (inr (refl, omega arith)) both.0 in
    (past, all_further before (key_of l) ls past (all_past (key_of l) ls both.1))

-- ---- two leaves, of which the one's key is above the other's

-- no number has both keys
apart :
    (k : ThingKind) (n : ℕ) (l m : Leaf) → Past (key_of l).kind (key_of l).number (key_of m)
    → (touches k n m && touches k n l) ≡ false
apart k n l m (inl less) = grind (arith, nat_tests, less)
apart k n l m (inr (same, less)) = grind (arith, nat_tests, same, less)

either :
    (s t : Bool) (x y o : Option Thing) → (s && t) ≡ false
    → (if s then x else (if t then y else o)) ≡ (if t then y else (if s then x else o))
either true true x y o both = absurd cc
either true false x y o both = refl
either false true x y o both = refl
either false false x y o both = refl

-- The currency after a leaf.
abbrev currency_by : Leaf → ℕ → ℕ
currency_by (OfCurrency currency) before = currency
currency_by (OfPut number thing) before = before
currency_by (OfGone kind number) before = before

currency_after : (l : Leaf) (b : Book) → (after_leaf l b).currency ≡ currency_by l b.currency
currency_after (OfCurrency c) b = refl
currency_after (OfPut n t) b = currency-with n t b
currency_after (OfGone k n) b = currency-without k n b

one_currency :
    (l m : Leaf) (before : ℕ) → Past (key_of l).kind (key_of l).number (key_of m)
    → currency_by m (currency_by l before) ≡ currency_by l (currency_by m before)
one_currency (OfCurrency c) (OfCurrency d) before (inl less) = absurd (omega (arith, less))
one_currency (OfCurrency c) (OfCurrency d) before (inr (same, less)) = absurd (omega (arith, less))
one_currency (OfCurrency c) (OfPut n t) before past = refl
one_currency (OfCurrency c) (OfGone k n) before past = refl
one_currency (OfPut n t) m before past = refl
one_currency (OfGone k n) m before past = refl

-- so it is the same which comes first
two_leaves :
    (l m : Leaf) (b : Book) → IsRising b → Past (key_of l).kind (key_of l).number (key_of m)
    → after_leaf m (after_leaf l b) ≡ after_leaf l (after_leaf m b)
two_leaves l m b r past =
    same_book (after_leaf m (after_leaf l b)) (after_leaf l (after_leaf m b))
    (rising_after m (after_leaf l b) (rising_after l b r)) (rising_after l (after_leaf m b) (rising_after m b r))
    (currency_after m (after_leaf l b) ∙ ap (currency_by m) (currency_after l b) ∙ one_currency l m b.currency past
    ∙ sym (currency_after l (after_leaf m b) ∙ ap (currency_by l) (currency_after m b)))
    (λ k n.
    thing_after k n m (after_leaf l b) (rising_after l b r)
    ∙ ap (λ (o : Option Thing). if touches k n m then given m else o) (thing_after k n l b r)
    ∙ either (touches k n m) (touches k n l) (given m) (given l) (thing_at k n b) (apart k n l m past)
    ∙ sym (thing_after k n l (after_leaf m b) (rising_after m b r)
    ∙ ap (λ (o : Option Thing). if touches k n l then given l else o) (thing_after k n m b r)))

-- ---- the passes

of_leaf : (l : Leaf) (b : Book) → edited (edit_of l) b ≡ after_leaf l b
of_leaf (OfCurrency c) b = refl
of_leaf (OfPut n t) b = refl
of_leaf (OfGone k n) b = refl

freed_rises : (ls : List Leaf) (b : Book) → IsRising b → IsRising (freed ls b)
freed_rises [] b r = r
freed_rises (l ∷ ls) b r =
    let rest = freed_rises ls b r in
    elim (frees_line (edit_of l)) as
    (λ (t : Bool). IsRising (if t then edited (edit_of l) (freed ls b) else freed ls b)) [
      | true ↦ subst IsRising (sym (of_leaf l (freed ls b))) (rising_after l (freed ls b) rest)
      | false ↦ rest
    ]

-- a leaf whose key is below all others may come behind those of the first pass
behind_freed :
    (l : Leaf) (ms : List Leaf) (b : Book) → IsRising b → AllPast (key_of l) ms
    → freed ms (after_leaf l b) ≡ after_leaf l (freed ms b)
behind_freed l [] b r past = refl
behind_freed l (m ∷ ms) b r past =
    let rest = behind_freed l ms b r past.1 in
    let before = freed ms b in
    let Chosen : Bool → Type 0 = λ t.
    (if t then edited (edit_of m) (freed ms (after_leaf l b)) else freed ms (after_leaf l b))
    ≡ after_leaf l (if t then edited (edit_of m) before else before) in
    elim (frees_line (edit_of m)) as Chosen [
      | true ↦ ap (edited (edit_of m)) rest ∙ of_leaf m (after_leaf l before)
          ∙ two_leaves l m before (freed_rises ms b r) past.0 ∙ ap (after_leaf l) (sym (of_leaf m before))
      | false ↦ rest
    ]

one_pass :
    (before : Key) (ls : List Leaf) (b : Book) → IsRising b → first_unordered before ls ≡ None
    → changed ls (freed ls b) ≡ after_leaves ls b
one_pass before [] b r up = refl
one_pass before (l ∷ ls) b r up =
    let both = rises_first before l ls up in
    let moved = behind_freed l ls b r (all_past (key_of l) ls both.1) in
    let rest = ap (changed ls) (of_leaf l (freed ls b) ∙ sym moved)
    ∙ one_pass (key_of l) ls (after_leaf l b) (rising_after l b r) both.1 in
    let now = freed ls b in
    let next = edited (edit_of l) now in
    let Chosen : Bool → Type 0 = λ t.
    changed ls (if t then (if t then next else now) else edited (edit_of l) (if t then next else now))
    ≡ after_leaves ls (after_leaf l b) in
    elim (frees_line (edit_of l)) as Chosen [ true ↦ rest | false ↦ rest ]

-- Both passes lead to the book to which the edit leads.
pub two_passes :
    (b : Book) (e : Edit) → IsRising b → IsAllowed b e → changed (leaves e) (freed (leaves e) b) ≡ edited e b
two_passes b e r allowed =
    one_pass (key_at 0 0) (leaves e) b r (allowed_order b e allowed) ∙ sym (edited-leaves e b)

-- ---- the passes over the leaves of some edits, one after another

pub freed-append : (xs ys : List Leaf) (b : Book) → freed (xs ++ ys) b ≡ freed xs (freed ys b)
freed-append [] ys b = refl
freed-append (l ∷ xs) ys b =
    ap (λ (c : Book). if frees_line (edit_of l) then edited (edit_of l) c else c) (freed-append xs ys b)

pub changed-append : (xs ys : List Leaf) (b : Book) → changed (xs ++ ys) b ≡ changed ys (changed xs b)
changed-append [] ys b = refl
changed-append (l ∷ xs) ys b = changed-append xs ys (if frees_line (edit_of l) then b else edited (edit_of l) b)
