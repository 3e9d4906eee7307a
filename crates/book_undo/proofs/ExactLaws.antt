-- Which edits are exact: those that may be applied and of which each leaf changes what stands at its key.
use Rattle.std.proofs.Common.{◌≡◌, ◌≢◌, ℕ, ◌-◌, ◌^◌, ◌==◌, nat_lt, min, Bool, true, false, ◌&&◌, ◌||◌}
use Rattle.std.proofs.Common.{if◌then◌else◌, List, [], ◌∷◌, Option, Some, None, is_none, option_map, IsTrue, inl, inr}
use Rattle.std.proofs.Common.{refl, sym, ap, ◌∙◌, arith}
use Rattle.std.specs.Prelude.{⊤, ◌↔◌}
use Rattle.std.proofs.lemmas.Bool.Decides.{nat_tests}
use Rattle.book_commodity.specs.Rules.{broken_where, first_broken}
use Rattle.book_commodity.proofs.ListLemmas.{mapped_none}
use Rattle.book_undo.specs.Book.{Book, IsRising, thing_at, with_currency, with_thing, without_thing}
use Rattle.book_undo.specs.Edit.{Leaf, OfCurrency, OfPut, OfGone, leaves, depth, is_nothing, Key, key_at, key_of}
use Rattle.book_undo.specs.EditRules.{first_missing, first_unordered, is_above, out_of_order, IsAllowed}
use Rattle.book_undo.specs.Exact.{any_touches, has_currency, touches, IsExact}
use Rattle.book_undo.specs.Thing.{kind_of, row_kind}
use Rattle.book_undo.specs.declared.edit.Edit.{Edit, All, Currency, Put, Gone}
use Rattle.book_undo.specs.declared.rule.EditRule.{EditRule}
use Rattle.book_undo.specs.declared.rule.EditRule.TheVariants.{Missing, OutOfOrder, TooDeep}
use Rattle.book_undo.specs.declared.thing.Thing.{Thing}
use Rattle.book_undo.specs.declared.thing.ThingKind.{ThingKind}
use Rattle.book_undo.specs.declared.thing.ThingKind.TheVariants as kind
use Rattle.book_undo.proofs.BookLaws.{currency-with, currency-without}
use Rattle.book_undo.proofs.EditLaws.{after_leaf, after_leaves, currency_untouched, edited-leaves, given}
use Rattle.book_undo.proofs.EditLaws.{rising_after, same_key, thing_after, untouched}
use Rattle.book_undo.proofs.InverseLaws.{NotBelow, Past, above_untouched, missing_first, past_above, past_not_below}
use Rattle.book_undo.proofs.InverseLaws.{rises_first}
use Rattle.book_undo.proofs.KindLaws.{no_head}
use Rattle.book_undo.proofs.ThreeRules.{three_kept}

-- A leaf changes what stands at its key. What it deletes is there, where it may be applied.
abbrev pub Changes : Book → Leaf → Type 0
Changes book (OfCurrency currency) = currency ≢ book.currency
Changes book (OfPut number thing) = thing_at (kind_of thing) number book ≢ Some thing
Changes book (OfGone kind number) = ⊤

abbrev pub AllChange : Book → List Leaf → Type 0
AllChange book [] = ⊤
AllChange book (leaf ∷ more) = Changes book leaf × AllChange book more

-- ---- what a leaf shows in the book after all of them

not_below : (k : ThingKind) (m : ℕ) (l : Leaf) → touches k m l ≡ true → NotBelow (row_kind k) m (key_of l)
not_below k m l e = inr (grind (arith, nat_tests, e), grind (arith, nat_tests, e))

missing_rest : (b : Book) (l : Leaf) (ls : List Leaf) → first_missing b (l ∷ ls) ≡ None → first_missing b ls ≡ None
missing_rest b (OfCurrency c) ls there = there
missing_rest b (OfPut n t) ls there = there
missing_rest b (OfGone k n) ls there = (missing_first b k n ls there).1

-- a leaf that changes what stands at its key gives something else
given_other :
    (k : ThingKind) (m : ℕ) (l : Leaf) (ls : List Leaf) (b : Book) → touches k m l ≡ true → Changes b l
    → first_missing b (l ∷ ls) ≡ None → given l ≢ thing_at k m b
given_other k m (OfCurrency c) ls b e other there same =
    absurd (let none = ap (λ (t : Bool). t && (m == 0)) (no_head k) in cc)
given_other k m (OfPut n t) ls b e other there same = other (same_key k (kind_of t) m n b e ∙ sym same)
given_other k m (OfGone j n) ls b e other there same =
    let is = (missing_first b j n ls there).0 in
    let none = ap is_none (same_key k j m n b e ∙ sym same) in absurd cc

-- so the book after leaves whose keys rise differs there
leaf_shows :
    (k : ThingKind) (m : ℕ) (b : Book) (before : Key) (ls : List Leaf) (now : Book) → IsRising now
    → thing_at k m now ≡ thing_at k m b → first_unordered before ls ≡ None → first_missing b ls ≡ None
    → AllChange b ls → any_touches k m ls ≡ true → thing_at k m (after_leaves ls now) ≢ thing_at k m b
leaf_shows k m b before [] now r same up there change e = absurd cc
leaf_shows k m b before (l ∷ ls) now r same up there change e =
    let both = rises_first before l ls up in
    let next = after_leaf l now in
    let rises = rising_after l now r in
    let Touched : Bool → Type 0 = λ t. touches k m l ≡ t → (t || any_touches k m ls) ≡ true
    → thing_at k m (after_leaves ls next) ≢ thing_at k m b in
    elim (touches k m l) as Touched [
      | true ↦ λ here any still.
          let past = above_untouched k m (key_of l) ls (not_below k m l here) both.1 in
          let is = untouched k m ls next rises past ∙ thing_after k m l now r
          ∙ ap (λ (t : Bool). if t then given l else thing_at k m now) here in
          given_other k m l ls b here change.0 there (sym is ∙ still)
      | false ↦ λ other any.
          leaf_shows k m b (key_of l) ls next rises
          (thing_after k m l now r ∙ ap (λ (t : Bool). if t then given l else thing_at k m now) other ∙ same)
          both.1 (missing_rest b l ls there) change.1 any
    ] refl e

-- ---- the currency

not_itself : Past 1 0 (key_at 1 0) → ⊥
not_itself (inl less) = absurd (omega (arith, less))
not_itself (inr (same, less)) = absurd (omega (arith, less))

-- the leaf for the currency is the first of those whose keys rise
none_above :
    (before : Key) (ls : List Leaf) → NotBelow 1 0 before → first_unordered before ls ≡ None
    → has_currency ls ≡ false
none_above before [] ge up = refl
none_above before (OfCurrency c ∷ ls) ge up =
    let both = rises_first before (OfCurrency c) ls up in
    absurd (not_itself (past_above 1 0 (key_at 1 0) before ge both.0))
none_above before (OfPut n t ∷ ls) ge up =
    let key = key_at (row_kind (kind_of t)) n in
    let both = rises_first before (OfPut n t) ls up in
    none_above key ls (past_not_below 1 0 key (past_above 1 0 key before ge both.0)) both.1
none_above before (OfGone k n ∷ ls) ge up =
    let key = key_at (row_kind k) n in
    let both = rises_first before (OfGone k n) ls up in
    none_above key ls (past_not_below 1 0 key (past_above 1 0 key before ge both.0)) both.1

currency_shows :
    (b : Book) (before : Key) (ls : List Leaf) (now : Book) → now.currency ≡ b.currency
    → first_unordered before ls ≡ None → AllChange b ls → has_currency ls ≡ true
    → (after_leaves ls now).currency ≢ b.currency
currency_shows b before [] now same up change e = absurd cc
currency_shows b before (OfCurrency c ∷ ls) now same up change e = λ still.
    let both = rises_first before (OfCurrency c) ls up in
    let none = none_above (key_at 1 0) ls (inr (refl, omega arith)) both.1 in
    change.0 (sym (currency_untouched ls (with_currency c now) none) ∙ still)
currency_shows b before (OfPut n t ∷ ls) now same up change e =
    let both = rises_first before (OfPut n t) ls up in
    currency_shows b (key_at (row_kind (kind_of t)) n) ls (with_thing n t now) (currency-with n t now ∙ same) both.1
    change.1 e
currency_shows b before (OfGone k n ∷ ls) now same up change e =
    let both = rises_first before (OfGone k n) ls up in
    currency_shows b (key_at (row_kind k) n) ls (without_thing k n now) (currency-without k n now ∙ same) both.1
    change.1 e

-- ---- exact edits

-- what isn't false is true
true_of : (t : Bool) → (t ≡ false → ⊥) → t ≡ true
true_of true other = refl
true_of false other = absurd (other refl)

-- the keys of an edit that may be applied rise
pub allowed_order :
    (b : Book) (e : Edit) → IsAllowed b e → first_unordered (key_at 0 0) (leaves e) ≡ None
allowed_order b e allowed =
    let deeper : Option EditRule = broken_where (nat_lt 8 (depth e)) TooDeep in
    let kept = three_kept (first_missing b (leaves e)) (out_of_order (leaves e)) deeper allowed in
    let of_place : ℕ → EditRule = λ place. OutOfOrder (min place (2 ^ 64 - 1)) in
    mapped_none of_place (first_unordered (key_at 0 0) (leaves e)) kept.1

pub exact_of :
    (b : Book) (e : Edit) → IsRising b → IsAllowed b e → AllChange b (leaves e) → IsExact b e
exact_of b e r allowed change =
    let deeper : Option EditRule = broken_where (nat_lt 8 (depth e)) TooDeep in
    let kept = three_kept (first_missing b (leaves e)) (out_of_order (leaves e)) deeper allowed in
    let up = allowed_order b e allowed in
    let after = edited-leaves e b in
    record {
      allowed = allowed;
      things = λ k m. (
        λ has same.
            leaf_shows k m b (key_at 0 0) (leaves e) b r refl up kept.0 change has
            (ap (thing_at k m) (sym after) ∙ same),
        λ differs.
            true_of (any_touches k m (leaves e))
            (λ none. differs (ap (thing_at k m) after ∙ untouched k m (leaves e) b r none)),
      );
      currency = (
        λ has same.
            currency_shows b (key_at 0 0) (leaves e) b refl up change has
            (ap (λ (c : Book). c.currency) (sym after) ∙ same),
        λ differs.
            true_of (has_currency (leaves e))
            (λ none. differs (ap (λ (c : Book). c.currency) after ∙ currency_untouched (leaves e) b none)),
      );
    }

-- the edit without parts
pub exact_nothing : (b : Book) → IsRising b → IsExact b (All [])
unfolding Rattle.book_undo.specs.declared.edit.Edit.TheBlock.hidden-the_row-Edit-0 denote.Hole.Carrier.hidden
exact_nothing b r = exact_of b (All []) r refl tt

pub above_all : (k : ThingKind) (n : ℕ) → is_above (key_at (row_kind k) n) (key_at 0 0) ≡ true
above_all kind.Commodity n = refl
above_all kind.Account n = refl
above_all kind.Txn n = refl
above_all kind.Price n = refl
above_all kind.Schedule n = refl
above_all kind.Held n = refl
above_all kind.Line n = refl
above_all kind.Binding n = refl
above_all kind.Recon n = refl

-- a leaf alone is in order
pub exact_put : (b : Book) (n : ℕ) (t : Thing) → IsRising b → thing_at (kind_of t) n b ≢ Some t → IsExact b (Put n t)
exact_put b n t r other =
    let in_order = ap (λ (s : Bool). first_broken (None
    ∷ option_map (λ place. OutOfOrder (min place (2 ^ 64 - 1))) (if s then None else Some 0) ∷ None ∷ []))
    (above_all (kind_of t) n) in
    exact_of b (Put n t) r in_order (other, tt)

pub exact_gone :
    (b : Book) (k : ThingKind) (n : ℕ) → IsRising b → is_none (thing_at k n b) ≡ false → IsExact b (Gone k n)
exact_gone b k n r there =
    let in_order = ap (λ (s : Bool). first_broken ((if is_none (thing_at k n b) then Some (Missing k n) else None)
    ∷ option_map (λ place. OutOfOrder (min place (2 ^ 64 - 1))) (if s then None else Some 0) ∷ None ∷ []))
    (above_all k n) in
    let is_there = ap (λ (s : Bool). first_broken ((if s then Some (Missing k n) else None) ∷ None ∷ None ∷ []))
    there in
    exact_of b (Gone k n) r (in_order ∙ is_there) (tt, tt)

pub exact_currency : (b : Book) (c : ℕ) → IsRising b → c ≢ b.currency → IsExact b (Currency c)
exact_currency b c r other = exact_of b (Currency c) r refl (other, tt)

-- ---- whether a list has no parts

pub nothing_of_none : (parts : List Edit) → parts ≡ [] → is_nothing (All parts) ≡ true
unfolding Rattle.book_undo.specs.declared.edit.Edit.TheBlock.hidden-the_row-Edit-0 denote.Hole.Carrier.hidden
nothing_of_none [] none = refl
nothing_of_none (part ∷ parts) none = absurd cc

pub something_of_some : (parts : List Edit) → (parts ≡ [] → ⊥) → is_nothing (All parts) ≡ false
unfolding Rattle.book_undo.specs.declared.edit.Edit.TheBlock.hidden-the_row-Edit-0 denote.Hole.Carrier.hidden
something_of_some [] some = absurd (some refl)
something_of_some (part ∷ parts) some = refl

pub nothing_tested :
    (parts : List Edit) (t : Bool) → (IsTrue t ↔ (parts ≡ [])) → t ≡ is_nothing (All parts)
nothing_tested parts true h = sym (nothing_of_none parts (h.0 refl))
nothing_tested parts false h = sym (something_of_some parts (λ none. absurd (let yes_it_is = h.1 none in cc)))
