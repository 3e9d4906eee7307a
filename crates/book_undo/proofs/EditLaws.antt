-- The laws of edits: the edited book is that after the leaves, one after another; what stands under a number after
-- them; and the leaves that restore what the book had at the keys of others lead back to it.
use Rattle.std.proofs.Common.{◌≡◌, ℕ, eqb, ◌==◌, Bool, true, false, ◌&&◌, ◌||◌}
use Rattle.std.proofs.Common.{if◌then◌else◌, List, [], ◌∷◌, ◌++◌, map, Option, Some, None}
use Rattle.std.proofs.Common.{refl, sym, ap, ◌∙◌, arith}
use Rattle.std.proofs.lemmas.Bool.Decides.{nat_tests}
use Rattle.book_undo.specs.Book.{Book, IsRising, thing_at, with_currency, with_thing, without_thing}
use Rattle.book_undo.specs.Edit.{edited, edited_row, Leaf, OfCurrency, OfPut, OfGone, leaves, leaves_row}
use Rattle.book_undo.specs.Edit.{Key, key_of}
use Rattle.book_undo.specs.Exact.{any_touches, has_currency, touches}
use Rattle.book_undo.specs.Inverse.{leaf_restoring, leaf_back}
use Rattle.book_undo.specs.Thing.{kind_of, row_kind}
use Rattle.book_undo.specs.declared.edit.Edit.{Edit, Currency, Put, Gone, All'}
use Rattle.book_undo.specs.declared.edit.Edit.{Row_of-Edit, end_of-Edit, more_of-Edit}
use Rattle.book_undo.specs.declared.thing.Thing.{Thing}
use Rattle.book_undo.specs.declared.thing.ThingKind.{ThingKind}
use Rattle.book_undo.proofs.BookLaws.{is_key, thing_at-with_thing, thing_at-without_thing}
use Rattle.book_undo.proofs.BookLaws.{rising-with, rising-without}
use Rattle.book_undo.proofs.BookLaws.{same_book, thing_at-with_currency, currency-with, currency-without}
use Rattle.book_undo.proofs.KindLaws.{same_kinds, key-restoring, no_head}

-- The book after a leaf, and after some, one after another.
abbrev pub after_leaf : Leaf → Book → Book
after_leaf (OfCurrency c) b = with_currency c b
after_leaf (OfPut n t) b = with_thing n t b
after_leaf (OfGone k n) b = without_thing k n b

abbrev pub after_leaves : List Leaf → Book → Book
after_leaves [] b = b
after_leaves (l ∷ ls) b = after_leaves ls (after_leaf l b)

pub after-append : (xs ys : List Leaf) (b : Book) → after_leaves (xs ++ ys) b ≡ after_leaves ys (after_leaves xs b)
after-append [] ys b = refl
after-append (x ∷ xs) ys b = after-append xs ys (after_leaf x b)

-- the edited book is the one after the edit's leaves
mutual
  pub edited-leaves : (e : Edit) (b : Book) → edited e b ≡ after_leaves (leaves e) b
  edited-leaves (Currency c) b = refl
  edited-leaves (Put n t) b = refl
  edited-leaves (Gone k n) b = refl
  edited-leaves (All' shape row) b = edited_row-leaves _ row b

  edited_row-leaves : (n : _) (row : Row_of-Edit n) (b : Book) → edited_row row b ≡ after_leaves (leaves_row row) b
  edited_row-leaves n end_of-Edit b = refl
  edited_row-leaves n (more_of-Edit e more) b =
      edited_row-leaves _ more (edited e b) ∙ ap (after_leaves (leaves_row more)) (edited-leaves e b)
      ∙ sym (after-append (leaves e) (leaves_row more) b)

-- ---- what stands under a number after leaves
-- What a number has after the leaf that changes it.
abbrev pub given : Leaf → Option Thing
given (OfCurrency c) = None
given (OfPut n t) = Some t
given (OfGone k n) = None

-- the thing under a number after a leaf: what the leaf gives, or what stood there
pub thing_after :
    (k : ThingKind) (m : ℕ) (l : Leaf) (b : Book) → IsRising b
    → thing_at k m (after_leaf l b) ≡ (if touches k m l then given l else thing_at k m b)
thing_after k m (OfCurrency c) b r = thing_at-with_currency k m c b
thing_after k m (OfPut n t) b r = thing_at-with_thing k m n t b
thing_after k m (OfGone j n) b r = thing_at-without_thing k m j n b r

pub rising_after : (l : Leaf) (b : Book) → IsRising b → IsRising (after_leaf l b)
rising_after (OfCurrency c) b r = record {
  commodities = r.commodities;
  accounts = r.accounts;
  transactions = r.transactions;
  prices = r.prices;
  schedules = r.schedules;
  statements = r.statements;
  lines = r.lines;
  bindings = r.bindings;
  reconciliations = r.reconciliations;
}
rising_after (OfPut n t) b r = rising-with n t b r
rising_after (OfGone k n) b r = rising-without k n b r

pub rising_after_all : (ls : List Leaf) (b : Book) → IsRising b → IsRising (after_leaves ls b)
rising_after_all [] b r = r
rising_after_all (l ∷ ls) b r = rising_after_all ls (after_leaf l b) (rising_after l b r)

pub or_false : (s t : Bool) → (s || t) ≡ false → (s ≡ false) × (t ≡ false)
or_false false false e = (refl, refl)
or_false false true e = absurd cc
or_false true t e = absurd cc

-- leaves that don't change a number leave what stands there
pub untouched :
    (k : ThingKind) (m : ℕ) (ls : List Leaf) (b : Book) → IsRising b → any_touches k m ls ≡ false
    → thing_at k m (after_leaves ls b) ≡ thing_at k m b
untouched k m [] b r e = refl
untouched k m (l ∷ ls) b r e =
    let both = or_false (touches k m l) (any_touches k m ls) e in
    untouched k m ls (after_leaf l b) (rising_after l b r) both.1 ∙ thing_after k m l b r
    ∙ ap (λ (t : Bool). if t then given l else thing_at k m b) both.0

-- ---- the leaf that restores
pub key-back : (b : Book) (l : Leaf) → key_of (leaf_back b l) ≡ key_of l
key-back b (OfCurrency c) = refl
key-back b (OfPut n t) = key-restoring (kind_of t) n b
key-back b (OfGone k n) = key-restoring k n b

given-restoring : (k : ThingKind) (n : ℕ) (o : Option Thing) → given (leaf_restoring k n o) ≡ o
given-restoring k n None = refl
given-restoring k n (Some t) = refl

pub same_key :
    (k j : ThingKind) (m n : ℕ) (b : Book) → is_key k m j n ≡ true → thing_at j n b ≡ thing_at k m b
same_key k j m n b e =
    let numbers : m ≡ n = grind (arith, nat_tests) in
    let rows : row_kind k ≡ row_kind j = grind (arith, nat_tests) in
    let kinds = same_kinds k j rows in
    ap (λ (i : ThingKind). thing_at i n b) (sym kinds) ∙ ap (λ (i : ℕ). thing_at k i b) (sym numbers)

given-back :
    (k : ThingKind) (m : ℕ) (l : Leaf) (b : Book)
    → touches k m l ≡ true → given (leaf_back b l) ≡ thing_at k m b
given-back k m (OfCurrency c) b e = absurd (let none = ap (λ (t : Bool). t && eqb m 0) (no_head k) in cc)
given-back k m (OfPut n t) b e = given-restoring (kind_of t) n _ ∙ same_key k (kind_of t) m n b e
given-back k m (OfGone j n) b e = given-restoring j n _ ∙ same_key k j m n b e

touches-back : (k : ThingKind) (m : ℕ) (l : Leaf) (b : Book) → touches k m (leaf_back b l) ≡ touches k m l
touches-back k m l b = ap (λ (key : Key). (row_kind k == key.kind) && eqb m key.number) (key-back b l)

back_step :
    (k : ThingKind) (m : ℕ) (l : Leaf) (b now : Book) (t : Bool) → touches k m l ≡ t
    → (t ≡ false → thing_at k m now ≡ thing_at k m b)
    → (if t then given (leaf_back b l) else thing_at k m now) ≡ thing_at k m b
back_step k m l b now true e h = given-back k m l b e
back_step k m l b now false e h = h refl

-- leaves that restore a book lead toward it from every book that differs from it only at their keys
toward :
    (k : ThingKind) (m : ℕ) (b : Book) (ls : List Leaf) (now : Book) → IsRising now
    → (any_touches k m ls ≡ false → thing_at k m now ≡ thing_at k m b)
    → thing_at k m (after_leaves (map (leaf_back b) ls) now) ≡ thing_at k m b
toward k m b [] now r h = h refl
toward k m b (l ∷ ls) now r h =
    toward k m b ls (after_leaf (leaf_back b l) now) (rising_after (leaf_back b l) now r) (λ rest.
    thing_after k m (leaf_back b l) now r
    ∙ ap (λ (t : Bool). if t then given (leaf_back b l) else thing_at k m now) (touches-back k m l b)
    ∙ back_step k m l b now (touches k m l) refl
    (λ here. h (ap (λ (t : Bool). t || any_touches k m ls) here ∙ rest)))

currency-restoring :
    (k : ThingKind) (n : ℕ) (o : Option Thing) (b : Book) → (after_leaf (leaf_restoring k n o) b).currency ≡ b.currency
currency-restoring k n None b = currency-without k n b
currency-restoring k n (Some t) b = currency-with n t b

pub currency_untouched :
    (ls : List Leaf) (b : Book) → has_currency ls ≡ false → (after_leaves ls b).currency ≡ b.currency
currency_untouched [] b e = refl
currency_untouched (OfCurrency c ∷ ls) b e = absurd cc
currency_untouched (OfPut n t ∷ ls) b e = currency_untouched ls (with_thing n t b) e ∙ currency-with n t b
currency_untouched (OfGone k n ∷ ls) b e = currency_untouched ls (without_thing k n b) e ∙ currency-without k n b

currency_toward :
    (b : Book) (ls : List Leaf) (now : Book) → (has_currency ls ≡ false → now.currency ≡ b.currency)
    → (after_leaves (map (leaf_back b) ls) now).currency ≡ b.currency
currency_toward b [] now h = h refl
currency_toward b (OfCurrency c ∷ ls) now h = currency_toward b ls (with_currency b.currency now) (λ _. refl)
currency_toward b (OfPut n t ∷ ls) now h =
    currency_toward b ls (after_leaf (leaf_back b (OfPut n t)) now)
    (λ e. currency-restoring (kind_of t) n (thing_at (kind_of t) n b) now ∙ h e)
currency_toward b (OfGone k n ∷ ls) now h =
    currency_toward b ls (after_leaf (leaf_back b (OfGone k n)) now)
    (λ e. currency-restoring k n (thing_at k n b) now ∙ h e)

-- the leaves that restore what the book had at the keys of some leaves lead back to it from the book after these
pub leaves_back :
    (b : Book) (ls : List Leaf) → IsRising b → after_leaves (map (leaf_back b) ls) (after_leaves ls b) ≡ b
leaves_back b ls r =
    let now = after_leaves ls b in
    let rises : IsRising now = rising_after_all ls b r in
    same_book (after_leaves (map (leaf_back b) ls) now) b (rising_after_all (map (leaf_back b) ls) now rises) r
    (currency_toward b ls now (λ e. currency_untouched ls b e))
    (λ k n. toward k n b ls now rises (λ e. untouched k n ls b r e))
