-- What the leaves of an edit say of the two books between which it leads: what stood where a leaf puts or deletes
-- something, and what stands there then.
use Rattle.std.proofs.Common.{◌≡◌, ℕ, ◌==◌, ◌||◌, Bool, true, false, if◌then◌else◌, All, List, [], ◌∷◌, ◌++◌}
use Rattle.std.proofs.Common.{flat_map, Option, Some, None, option_map, refl, sym, ap, subst, ◌∙◌, inr, arith}
use Rattle.std.proofs.lemmas.Bool.{eqb-true}
use Rattle.std.proofs.lemmas.Bool.Decides.{nat_tests}
use Rattle.std.proofs.lemmas.List.Elements.{All-append, All-cons, All-head, All-nil, All-tail}
use Rattle.book_commodity.specs.Table.{value_of}
use Rattle.book_splits.specs.declared.transaction.Txn.{Txn}
use Rattle.book_statement.specs.declared.line.Line.{Line}
use Rattle.book_match.specs.declared.free.Free.{Free}
use Rattle.book_undo.specs.Book.{Book, IsRising, thing_at}
use Rattle.book_undo.specs.Edit.{edited, Leaf, OfCurrency, OfGone, OfPut, Key, key_at, key_of, leaves}
use Rattle.book_undo.specs.EditRules.{IsAllowed, first_unordered}
use Rattle.book_undo.specs.Exact.{any_touches, touches}
use Rattle.book_undo.specs.Thing.{row_kind}
use Rattle.book_undo.specs.declared.edit.Edit.{Edit}
use Rattle.book_undo.specs.declared.thing.Thing.TheVariants as thing
use Rattle.book_undo.specs.declared.thing.ThingKind.{ThingKind}
use Rattle.book_undo.specs.declared.thing.ThingKind.TheVariants as kind
use Rattle.book_undo.proofs.EditLaws.{after_leaf, after_leaves, edited-leaves, given, rising_after, thing_after}
use Rattle.book_undo.proofs.EditLaws.{untouched}
use Rattle.book_undo.proofs.ExactLaws.{allowed_order}
use Rattle.book_undo.proofs.InverseLaws.{NotBelow, above_untouched, rises_first}
use Rattle.book_free.specs.Seen.{line_entries, new_lines, new_splits, old_lines, old_splits}
use Rattle.book_free.specs.Seen.{split_entries}

-- ---- what a leaf gives stands at its key after all of them

not_below : (k : ThingKind) (m : ℕ) (l : Leaf) → touches k m l ≡ true → NotBelow (row_kind k) m (key_of l)
not_below k m l e = inr (grind (arith, nat_tests, e), grind (arith, nat_tests, e))

-- at each key that a leaf touches stands what it gives
abbrev pub Gives : Book → Leaf → Type 0
Gives now l = (k : ThingKind) (m : ℕ) → touches k m l ≡ true → thing_at k m now ≡ given l

pub gives_all :
    (before : Key) (ls : List Leaf) (now : Book) → IsRising now → first_unordered before ls ≡ None
    → All (Gives (after_leaves ls now)) ls
gives_all before [] now r up = All-nil (Gives now)
gives_all before (l ∷ ls) now r up =
    let both = rises_first before l ls up in
    let next = after_leaf l now in
    let rises = rising_after l now r in
    All-cons (Gives (after_leaves ls next)) l ls
    (λ k m here.
    untouched k m ls next rises (above_untouched k m (key_of l) ls (not_below k m l here) both.1)
    ∙ thing_after k m l now r ∙ ap (λ (t : Bool). if t then given l else thing_at k m now) here)
    (gives_all (key_of l) ls next rises both.1)

-- ---- so what leaves put is what stands where they are in the book after them

txn_is : (o : Option Txn) (t : Txn) → option_map (λ x. thing.Txn x) o ≡ Some (thing.Txn t) → o ≡ Some t
txn_is None t e = absurd cc
txn_is (Some x) t e = cc

txn_none : (o : Option Txn) → option_map (λ x. thing.Txn x) o ≡ None → o ≡ None
txn_none None e = refl
txn_none (Some x) e = absurd cc

line_is : (o : Option Line) (l : Line) → option_map (λ x. thing.Line x) o ≡ Some (thing.Line l) → o ≡ Some l
line_is None l e = absurd cc
line_is (Some x) l e = cc

line_none : (o : Option Line) → option_map (λ x. thing.Line x) o ≡ None → o ≡ None
line_none None e = refl
line_none (Some x) e = absurd cc

itself : (n : ℕ) → (n == n) ≡ true
itself n = grind (arith, nat_tests)

put_splits : (now : Book) (l : Leaf) → Gives now l → new_splits l ≡ old_splits now l
put_splits now (OfCurrency c) gives = refl
put_splits now (OfPut n (thing.Txn t)) gives =
    sym (ap split_entries (txn_is (value_of n now.transactions) t (gives kind.Txn n (itself n))))
put_splits now (OfPut n (thing.Commodity x)) gives = refl
put_splits now (OfPut n (thing.Account x)) gives = refl
put_splits now (OfPut n (thing.Price x)) gives = refl
put_splits now (OfPut n (thing.Schedule x)) gives = refl
put_splits now (OfPut n (thing.Held x)) gives = refl
put_splits now (OfPut n (thing.Line x)) gives = refl
put_splits now (OfPut n (thing.Binding x)) gives = refl
put_splits now (OfPut n (thing.Recon x)) gives = refl
put_splits now (OfGone kind.Txn n) gives =
    sym (ap split_entries (txn_none (value_of n now.transactions) (gives kind.Txn n (itself n))))
put_splits now (OfGone kind.Commodity n) gives = refl
put_splits now (OfGone kind.Account n) gives = refl
put_splits now (OfGone kind.Price n) gives = refl
put_splits now (OfGone kind.Schedule n) gives = refl
put_splits now (OfGone kind.Held n) gives = refl
put_splits now (OfGone kind.Line n) gives = refl
put_splits now (OfGone kind.Binding n) gives = refl
put_splits now (OfGone kind.Recon n) gives = refl

put_lines : (now : Book) (l : Leaf) → Gives now l → new_lines l ≡ old_lines now l
put_lines now (OfCurrency c) gives = refl
put_lines now (OfPut n (thing.Line x)) gives =
    sym (ap (line_entries n) (line_is (value_of n now.lines) x (gives kind.Line n (itself n))))
put_lines now (OfPut n (thing.Commodity x)) gives = refl
put_lines now (OfPut n (thing.Account x)) gives = refl
put_lines now (OfPut n (thing.Txn x)) gives = refl
put_lines now (OfPut n (thing.Price x)) gives = refl
put_lines now (OfPut n (thing.Schedule x)) gives = refl
put_lines now (OfPut n (thing.Held x)) gives = refl
put_lines now (OfPut n (thing.Binding x)) gives = refl
put_lines now (OfPut n (thing.Recon x)) gives = refl
put_lines now (OfGone kind.Line n) gives =
    sym (ap (line_entries n) (line_none (value_of n now.lines) (gives kind.Line n (itself n))))
put_lines now (OfGone kind.Commodity n) gives = refl
put_lines now (OfGone kind.Account n) gives = refl
put_lines now (OfGone kind.Txn n) gives = refl
put_lines now (OfGone kind.Price n) gives = refl
put_lines now (OfGone kind.Schedule n) gives = refl
put_lines now (OfGone kind.Held n) gives = refl
put_lines now (OfGone kind.Binding n) gives = refl
put_lines now (OfGone kind.Recon n) gives = refl

pub same_flat : {X Y : Type 0} (f g : X → List Y) (P : X → Type 0) (xs : List X)
    → ((x : X) → P x → f x ≡ g x) → All P xs → flat_map f xs ≡ flat_map g xs
same_flat f g P [] same all = refl
same_flat f g P (x ∷ xs) same all =
    ap (λ ys. ys ++ flat_map f xs) (same x (All-head P x xs all))
    ∙ ap (λ ys. g x ++ ys) (same_flat f g P xs same (All-tail P x xs all))

-- an allowed edit puts what stands in the book after it
pub edit_gives : (b : Book) (e : Edit) → IsRising b → IsAllowed b e → All (Gives (edited e b)) (leaves e)
edit_gives b e r allowed =
    subst (λ now. All (Gives now) (leaves e)) (sym (edited-leaves e b))
    (gives_all (key_at 0 0) (leaves e) b r (allowed_order b e allowed))

pub splits_put : (b : Book) (e : Edit) → IsRising b → IsAllowed b e
    → flat_map new_splits (leaves e) ≡ flat_map (old_splits (edited e b)) (leaves e)
splits_put b e r allowed =
    same_flat new_splits (old_splits (edited e b)) (Gives (edited e b)) (leaves e) (put_splits (edited e b))
    (edit_gives b e r allowed)

pub lines_put : (b : Book) (e : Edit) → IsRising b → IsAllowed b e
    → flat_map new_lines (leaves e) ≡ flat_map (old_lines (edited e b)) (leaves e)
lines_put b e r allowed =
    same_flat new_lines (old_lines (edited e b)) (Gives (edited e b)) (leaves e) (put_lines (edited e b))
    (edit_gives b e r allowed)

-- ---- what stands in a book where leaves are

splits_here : (m : ℕ) (b : Book) (l : Leaf) → touches kind.Txn m l ≡ true
    → old_splits b l ≡ split_entries (value_of m b.transactions)
splits_here m b (OfCurrency c) e = absurd cc
splits_here m b (OfPut n (thing.Txn t)) e =
    ap (λ (k : ℕ). split_entries (value_of k b.transactions)) (sym (eqb-true m n e))
splits_here m b (OfPut n (thing.Commodity x)) e = absurd cc
splits_here m b (OfPut n (thing.Account x)) e = absurd cc
splits_here m b (OfPut n (thing.Price x)) e = absurd cc
splits_here m b (OfPut n (thing.Schedule x)) e = absurd cc
splits_here m b (OfPut n (thing.Held x)) e = absurd cc
splits_here m b (OfPut n (thing.Line x)) e = absurd cc
splits_here m b (OfPut n (thing.Binding x)) e = absurd cc
splits_here m b (OfPut n (thing.Recon x)) e = absurd cc
splits_here m b (OfGone kind.Txn n) e =
    ap (λ (k : ℕ). split_entries (value_of k b.transactions)) (sym (eqb-true m n e))
splits_here m b (OfGone kind.Commodity n) e = absurd cc
splits_here m b (OfGone kind.Account n) e = absurd cc
splits_here m b (OfGone kind.Price n) e = absurd cc
splits_here m b (OfGone kind.Schedule n) e = absurd cc
splits_here m b (OfGone kind.Held n) e = absurd cc
splits_here m b (OfGone kind.Line n) e = absurd cc
splits_here m b (OfGone kind.Binding n) e = absurd cc
splits_here m b (OfGone kind.Recon n) e = absurd cc

lines_here : (m : ℕ) (b : Book) (l : Leaf) → touches kind.Line m l ≡ true
    → old_lines b l ≡ line_entries m (value_of m b.lines)
lines_here m b (OfCurrency c) e = absurd cc
lines_here m b (OfPut n (thing.Line x)) e =
    ap (λ (k : ℕ). line_entries k (value_of k b.lines)) (sym (eqb-true m n e))
lines_here m b (OfPut n (thing.Commodity x)) e = absurd cc
lines_here m b (OfPut n (thing.Account x)) e = absurd cc
lines_here m b (OfPut n (thing.Txn x)) e = absurd cc
lines_here m b (OfPut n (thing.Price x)) e = absurd cc
lines_here m b (OfPut n (thing.Schedule x)) e = absurd cc
lines_here m b (OfPut n (thing.Held x)) e = absurd cc
lines_here m b (OfPut n (thing.Binding x)) e = absurd cc
lines_here m b (OfPut n (thing.Recon x)) e = absurd cc
lines_here m b (OfGone kind.Line n) e =
    ap (λ (k : ℕ). line_entries k (value_of k b.lines)) (sym (eqb-true m n e))
lines_here m b (OfGone kind.Commodity n) e = absurd cc
lines_here m b (OfGone kind.Account n) e = absurd cc
lines_here m b (OfGone kind.Txn n) e = absurd cc
lines_here m b (OfGone kind.Price n) e = absurd cc
lines_here m b (OfGone kind.Schedule n) e = absurd cc
lines_here m b (OfGone kind.Held n) e = absurd cc
lines_here m b (OfGone kind.Binding n) e = absurd cc
lines_here m b (OfGone kind.Recon n) e = absurd cc

all_front : {Y : Type 0} (P : Y → Type 0) (xs ys : List Y) → All P (xs ++ ys) → All P xs
all_front P [] ys all = All-nil P
all_front P (x ∷ xs) ys all =
    All-cons P x xs (All-head P x (xs ++ ys) all) (all_front P xs ys (All-tail P x (xs ++ ys) all))

all_behind : {Y : Type 0} (P : Y → Type 0) (xs ys : List Y) → All P (xs ++ ys) → All P ys
all_behind P [] ys all = all
all_behind P (x ∷ xs) ys all = all_behind P xs ys (All-tail P x (xs ++ ys) all)

-- what holds of all that stands there holds of what stands at one key
here_of : {Y : Type 0} (P : Y → Type 0) (side : Leaf → List Y) (own : List Y) (k : ThingKind) (m : ℕ) (ls : List Leaf)
    → ((l : Leaf) → touches k m l ≡ true → side l ≡ own) → All P (flat_map side ls) → any_touches k m ls ≡ true
    → All P own
here_of P side own k m [] is all e = absurd cc
here_of P side own k m (l ∷ ls) is all e =
    elim (touches k m l) as (λ (t : Bool). touches k m l ≡ t → (t || any_touches k m ls) ≡ true → All P own) [
      | true ↦ λ here any. subst (All P) (is l here) (all_front P (side l) (flat_map side ls) all)
      | false ↦ λ other any.
          here_of P side own k m ls is (all_behind P (side l) (flat_map side ls) all) any
    ] refl e

pub splits_at : (P : ℕ × Option Free → Type 0) (b : Book) (m : ℕ) (ls : List Leaf)
    → All P (flat_map (old_splits b) ls) → any_touches kind.Txn m ls ≡ true
    → All P (split_entries (value_of m b.transactions))
splits_at P b m ls all e =
    here_of P (old_splits b) (split_entries (value_of m b.transactions)) kind.Txn m ls (splits_here m b) all e

pub lines_at : (P : ℕ × ℕ → Type 0) (b : Book) (m : ℕ) (ls : List Leaf)
    → All P (flat_map (old_lines b) ls) → any_touches kind.Line m ls ≡ true
    → All P (line_entries m (value_of m b.lines))
lines_at P b m ls all e =
    here_of P (old_lines b) (line_entries m (value_of m b.lines)) kind.Line m ls (lines_here m b) all e

-- ---- and only what stands there is among it

-- what holds of what stands at each key that is touched holds of all of it
abbrev pub IsAll : List Leaf → List Leaf → Type 0
IsAll ls all = (k : ThingKind) (m : ℕ) → any_touches k m ls ≡ true → any_touches k m all ≡ true

of_splits : (P : ℕ × Option Free → Type 0) (b : Book) (all : List Leaf) (l : Leaf)
    → ((k : ThingKind) (m : ℕ) → touches k m l ≡ true → any_touches k m all ≡ true)
    → ((m : ℕ) → any_touches kind.Txn m all ≡ true → All P (split_entries (value_of m b.transactions)))
    → All P (old_splits b l)
of_splits P b all (OfCurrency c) is each = All-nil P
of_splits P b all (OfPut n (thing.Txn t)) is each = each n (is kind.Txn n (itself n))
of_splits P b all (OfPut n (thing.Commodity x)) is each = All-nil P
of_splits P b all (OfPut n (thing.Account x)) is each = All-nil P
of_splits P b all (OfPut n (thing.Price x)) is each = All-nil P
of_splits P b all (OfPut n (thing.Schedule x)) is each = All-nil P
of_splits P b all (OfPut n (thing.Held x)) is each = All-nil P
of_splits P b all (OfPut n (thing.Line x)) is each = All-nil P
of_splits P b all (OfPut n (thing.Binding x)) is each = All-nil P
of_splits P b all (OfPut n (thing.Recon x)) is each = All-nil P
of_splits P b all (OfGone kind.Txn n) is each = each n (is kind.Txn n (itself n))
of_splits P b all (OfGone kind.Commodity n) is each = All-nil P
of_splits P b all (OfGone kind.Account n) is each = All-nil P
of_splits P b all (OfGone kind.Price n) is each = All-nil P
of_splits P b all (OfGone kind.Schedule n) is each = All-nil P
of_splits P b all (OfGone kind.Held n) is each = All-nil P
of_splits P b all (OfGone kind.Line n) is each = All-nil P
of_splits P b all (OfGone kind.Binding n) is each = All-nil P
of_splits P b all (OfGone kind.Recon n) is each = All-nil P

of_lines : (P : ℕ × ℕ → Type 0) (b : Book) (all : List Leaf) (l : Leaf)
    → ((k : ThingKind) (m : ℕ) → touches k m l ≡ true → any_touches k m all ≡ true)
    → ((m : ℕ) → any_touches kind.Line m all ≡ true → All P (line_entries m (value_of m b.lines)))
    → All P (old_lines b l)
of_lines P b all (OfCurrency c) is each = All-nil P
of_lines P b all (OfPut n (thing.Line t)) is each = each n (is kind.Line n (itself n))
of_lines P b all (OfPut n (thing.Commodity x)) is each = All-nil P
of_lines P b all (OfPut n (thing.Account x)) is each = All-nil P
of_lines P b all (OfPut n (thing.Txn x)) is each = All-nil P
of_lines P b all (OfPut n (thing.Price x)) is each = All-nil P
of_lines P b all (OfPut n (thing.Schedule x)) is each = All-nil P
of_lines P b all (OfPut n (thing.Held x)) is each = All-nil P
of_lines P b all (OfPut n (thing.Binding x)) is each = All-nil P
of_lines P b all (OfPut n (thing.Recon x)) is each = All-nil P
of_lines P b all (OfGone kind.Line n) is each = each n (is kind.Line n (itself n))
of_lines P b all (OfGone kind.Commodity n) is each = All-nil P
of_lines P b all (OfGone kind.Account n) is each = All-nil P
of_lines P b all (OfGone kind.Txn n) is each = All-nil P
of_lines P b all (OfGone kind.Price n) is each = All-nil P
of_lines P b all (OfGone kind.Schedule n) is each = All-nil P
of_lines P b all (OfGone kind.Held n) is each = All-nil P
of_lines P b all (OfGone kind.Binding n) is each = All-nil P
of_lines P b all (OfGone kind.Recon n) is each = All-nil P

all_of : {Y : Type 0} (P : Y → Type 0) (side : Leaf → List Y) (all ls : List Leaf) → IsAll ls all
    → ((l : Leaf) → ((k : ThingKind) (m : ℕ) → touches k m l ≡ true → any_touches k m all ≡ true) → All P (side l))
    → All P (flat_map side ls)
all_of P side all [] is each = All-nil P
all_of P side all (l ∷ ls) is each =
    All-append P (side l) (flat_map side ls)
    (each l (λ k m here. is k m (ap (λ (t : Bool). t || any_touches k m ls) here)))
    (all_of P side all ls
    (λ k m any. is k m (ap (λ (t : Bool). touches k m l || t) any ∙ or_last (touches k m l))) each)
  where
    or_last : (t : Bool) → (t || true) ≡ true
    or_last true = refl
    or_last false = refl

pub all_splits : (P : ℕ × Option Free → Type 0) (b : Book) (ls : List Leaf)
    → ((m : ℕ) → any_touches kind.Txn m ls ≡ true → All P (split_entries (value_of m b.transactions)))
    → All P (flat_map (old_splits b) ls)
all_splits P b ls each =
    all_of P (old_splits b) ls ls (λ k m any. any) (λ l is. of_splits P b ls l is each)

pub all_lines : (P : ℕ × ℕ → Type 0) (b : Book) (ls : List Leaf)
    → ((m : ℕ) → any_touches kind.Line m ls ≡ true → All P (line_entries m (value_of m b.lines)))
    → All P (flat_map (old_lines b) ls)
all_lines P b ls each =
    all_of P (old_lines b) ls ls (λ k m any. any) (λ l is. of_lines P b ls l is each)
