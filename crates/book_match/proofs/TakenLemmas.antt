-- The splits that are left, as the loops over lines and splits go through them.
use Rattle.std.proofs.Common.{◌≡◌, ℕ, ◌+◌, ◌<◌, nat_lt, ◌==◌, Bool, true, false, not, ◌&&◌, cond, if◌then◌else◌}
use Rattle.std.proofs.Common.{List, [], ◌∷◌, ◌++◌, length, drop, get_or, filter, map, Some, None, refl, sym, ap}
use Rattle.std.proofs.Common.{◌∙◌, arith}
use Rattle.std.proofs.lemmas.Bool.{ne_eqb}
use Rattle.std.proofs.lemmas.Bool.Decides.{nat_tests}
use Rattle.std.specs.BTreeSet.{BTreeSet, contains}
use Rattle.std.specs.BTreeMap.{is_at}
use Rattle.std.specs.Ordering.{is_eq, nat_cmp}
use Rattle.std.specs.declared.cmp.Ordering.TheVariants.{Less, Equal, Greater}
use Rattle.book_commodity.proofs.ListLemmas.{from-item}
use Rattle.book_match.specs.Proposal.{choice, is_candidate, left_by, pair_of, pairs_of}
use Rattle.book_match.specs.Taken.{left}
use Rattle.book_match.specs.declared.views.LineView.{LineView}
use Rattle.book_match.specs.declared.views.SplitView.{SplitView}

-- ---- what a filter keeps
filter-not : {X : Type 0} (p : X → Bool) (x : X) (xs : List X) → p x ≡ false → filter p (x ∷ xs) ≡ filter p xs
filter-not p x xs e = ap (λ (t : Bool). if t then x ∷ filter p xs else filter p xs) e

filter-has : {X : Type 0} (p : X → Bool) (x : X) (xs : List X) → p x ≡ true → filter p (x ∷ xs) ≡ x ∷ filter p xs
filter-has p x xs e = ap (λ (t : Bool). if t then x ∷ filter p xs else filter p xs) e

-- two filters one after the other
pub filter-both : {X : Type 0} (p q r : X → Bool) (xs : List X) → ((x : X) → p x ≡ (q x && r x))
    → filter p xs ≡ filter r (filter q xs)
filter-both p q r [] same = refl
filter-both {X} p q r (x ∷ xs) same = by_tests (q x) (r x) refl refl (filter-both p q r xs same)
  where
    by_tests : (s t : Bool) → q x ≡ s → r x ≡ t → filter p xs ≡ filter r (filter q xs)
        → filter p (x ∷ xs) ≡ filter r (filter q (x ∷ xs))
    by_tests true true e f more =
        filter-has p x xs (same x ∙ ap (λ (a : Bool). a && r x) e ∙ f) ∙ ap (λ l. x ∷ l) more
        ∙ sym (ap (filter r) (filter-has q x xs e) ∙ filter-has r x (filter q xs) f)
    by_tests true false e f more =
        filter-not p x xs (same x ∙ ap (λ (a : Bool). a && r x) e ∙ f) ∙ more
        ∙ sym (ap (filter r) (filter-has q x xs e) ∙ filter-not r x (filter q xs) f)
    by_tests false t e f more =
        filter-not p x xs (same x ∙ ap (λ (a : Bool). a && r x) e) ∙ more ∙ sym (ap (filter r) (filter-not q x xs e))

-- ---- the numbers that are taken
at-number : (k q : ℕ) → is_at (nat_cmp k) q ≡ (k == q)
at-number k q =
    by_tests (nat_lt k q) (k == q) (λ e. ne_eqb k q (λ same. absurd (let less : k < q = grind (arith, nat_tests, e) in
    omega (arith, less, same))))
  where
    by_tests : (s t : Bool) → (s ≡ true → t ≡ false)
        → is_eq (if s then Less else (if t then Equal else Greater)) ≡ t
    by_tests true t less = sym (less refl)
    by_tests false true less = refl
    by_tests false false less = refl

-- nothing is taken yet
pub left-all : (taken : BTreeSet ℕ) (splits : List SplitView) → ((q : ℕ) → contains nat_cmp taken q ≡ false)
    → left taken splits ≡ splits
left-all taken [] none = refl
left-all taken (s ∷ splits) none =
    filter-has (λ (split : SplitView). not (contains nat_cmp taken split.split)) s splits (ap not (none s.split))
    ∙ ap (λ l. s ∷ l) (left-all taken splits none)

-- one more is taken
pub left-more : (old new : BTreeSet ℕ) (taken : SplitView) (splits : List SplitView)
    → ((q : ℕ) → contains nat_cmp new q ≡ cond (is_at (nat_cmp taken.split) q) true (contains nat_cmp old q))
    → left new splits ≡ left_by (Some taken) (left old splits)
left-more old new taken splits more =
    filter-both (λ (s : SplitView). not (contains nat_cmp new s.split))
    (λ (s : SplitView). not (contains nat_cmp old s.split)) (λ (s : SplitView). not (taken.split == s.split)) splits
    (λ s. ap not (more s.split ∙ ap (λ (t : Bool). cond t true (contains nat_cmp old s.split))
    (at-number taken.split s.split)) ∙ tests (taken.split == s.split) (contains nat_cmp old s.split))
  where
    tests : (a b : Bool) → not (cond a true b) ≡ (not b && not a)
    tests true true = refl
    tests true false = refl
    tests false true = refl
    tests false false = refl

-- ---- the candidates that are left, from a place on
abbrev pub candidates : ℕ → LineView → BTreeSet ℕ → List SplitView → List SplitView
candidates window line taken splits = filter (is_candidate window line) (left taken splits)

from-kept : (window : ℕ) (line : LineView) (taken : BTreeSet ℕ) (splits : List SplitView) (i : ℕ) (s : SplitView)
    → i < length splits → s ≡ get_or splits i s → contains nat_cmp taken s.split ≡ false
    → candidates window line taken (drop i splits)
    ≡ filter (is_candidate window line) (s ∷ left taken (drop (i + 1) splits))
from-kept window line taken splits i s below is free =
    ap (candidates window line taken) (from-item splits i s below is)
    ∙ ap (filter (is_candidate window line)) (filter-has
    (λ (split : SplitView). not (contains nat_cmp taken split.split)) s (drop (i + 1) splits) (ap not free))

pub past-taken : (window : ℕ) (line : LineView) (taken : BTreeSet ℕ) (splits : List SplitView) (i : ℕ) (s : SplitView)
    → i < length splits → s ≡ get_or splits i s → contains nat_cmp taken s.split ≡ true
    → candidates window line taken (drop i splits) ≡ candidates window line taken (drop (i + 1) splits)
past-taken window line taken splits i s below is gone =
    ap (candidates window line taken) (from-item splits i s below is)
    ∙ ap (filter (is_candidate window line)) (filter-not
    (λ (split : SplitView). not (contains nat_cmp taken split.split)) s (drop (i + 1) splits) (ap not gone))

pub past-other : (window : ℕ) (line : LineView) (taken : BTreeSet ℕ) (splits : List SplitView) (i : ℕ) (s : SplitView)
    → i < length splits → s ≡ get_or splits i s → is_candidate window line s ≡ false
    → candidates window line taken (drop i splits) ≡ candidates window line taken (drop (i + 1) splits)
past-other window line taken splits i s below is other = by_test (contains nat_cmp taken s.split) refl
  where
    by_test : (t : Bool) → contains nat_cmp taken s.split ≡ t
        → candidates window line taken (drop i splits) ≡ candidates window line taken (drop (i + 1) splits)
    by_test true e = past-taken window line taken splits i s below is e
    by_test false e =
        from-kept window line taken splits i s below is e
        ∙ filter-not (is_candidate window line) s (left taken (drop (i + 1) splits)) other

pub candidate-here : (window : ℕ) (line : LineView) (taken : BTreeSet ℕ) (splits : List SplitView) (i : ℕ)
    (s : SplitView) → i < length splits → s ≡ get_or splits i s → is_candidate window line s ≡ true
    → contains nat_cmp taken s.split ≡ false
    → candidates window line taken (drop i splits) ≡ s ∷ candidates window line taken (drop (i + 1) splits)
candidate-here window line taken splits i s below is candidate free =
    from-kept window line taken splits i s below is free
    ∙ filter-has (is_candidate window line) s (left taken (drop (i + 1) splits)) candidate

-- ---- the line that a loop reads
pub none-here : {X : Type 0} (f : X → LineView) (window : ℕ) (rows : List X) (i : ℕ) (x : X) (splits : List SplitView)
    → i < length rows → x ≡ get_or rows i x → None ≡ choice window (f x) splits
    → pairs_of window (map f (drop i rows)) splits ≡ pairs_of window (map f (drop (i + 1) rows)) splits
none-here f window rows i x splits below is none =
    ap (λ l. pairs_of window (map f l) splits) (from-item rows i x below is)
    ∙ ap (λ o. pair_of (f x) o ++ pairs_of window (map f (drop (i + 1) rows)) (left_by o splits)) (sym none)

pub pair-here : {X : Type 0} (f : X → LineView) (window : ℕ) (rows : List X) (i : ℕ) (x : X) (s : SplitView)
    (splits : List SplitView) → i < length rows → x ≡ get_or rows i x → Some s ≡ choice window (f x) splits
    → pairs_of window (map f (drop i rows)) splits
    ≡ record { line = (f x).line; split = s.split }
    ∷ pairs_of window (map f (drop (i + 1) rows)) (left_by (Some s) splits)
pair-here f window rows i x s splits below is some =
    ap (λ l. pairs_of window (map f l) splits) (from-item rows i x below is)
    ∙ ap (λ o. pair_of (f x) o ++ pairs_of window (map f (drop (i + 1) rows)) (left_by o splits)) (sym some)
