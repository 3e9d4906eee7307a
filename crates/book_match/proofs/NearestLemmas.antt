-- The nearest of some splits is one of them, and none of them is nearer.
use Rattle.std.proofs.Common.{◌≡◌, ℕ, zero, suc, nat_lt, Bool, true, false, not, ◌&&◌, List, [], ◌∷◌, Option, Some}
use Rattle.std.proofs.Common.{None, All, filter}
use Rattle.std.proofs.Common.{refl, sym, ap, subst, ◌∙◌, arith, if◌then◌else◌}
use Rattle.std.proofs.lemmas.Bool.Decides.{nat_tests}
use Rattle.std.proofs.lemmas.List.Elements.{All-nil, All-cons}
use Rattle.std.specs.Prelude.{Contains, fold}
use Rattle.book_match.specs.Proposal.{choice, distance, in_turn, is_candidate, is_nearer, nearer, nearest, same_number}
use Rattle.book_match.specs.declared.views.LineView.{LineView}
use Rattle.book_match.specs.declared.views.SplitView.{SplitView}

-- the order by days, having the number, and split number
abbrev first : ℕ → ℕ → Bool → Bool → ℕ → ℕ → Bool
first d e s t m n = in_turn (nat_lt d e) (nat_lt e d) (in_turn (s && not t) (t && not s) (nat_lt m n))

first-one : (d e : ℕ) (s t : Bool) (m n : ℕ) → first d e s t m n ≡ true → first e d t s n m ≡ false
first-one d e true true m n h = grind (arith, nat_tests)
first-one d e true false m n h = grind (arith, nat_tests)
first-one d e false true m n h = grind (arith, nat_tests)
first-one d e false false m n h = grind (arith, nat_tests)

first-chain : (d e f : ℕ) (s t u : Bool) (m n k : ℕ) → first d e s t m n ≡ false → first e f t u n k ≡ false
    → first d f s u m k ≡ false
first-chain d e f true true true m n k h g = grind (arith, nat_tests)
first-chain d e f true true false m n k h g = grind (arith, nat_tests)
first-chain d e f true false true m n k h g = grind (arith, nat_tests)
first-chain d e f true false false m n k h g = grind (arith, nat_tests)
first-chain d e f false true true m n k h g = grind (arith, nat_tests)
first-chain d e f false true false m n k h g = grind (arith, nat_tests)
first-chain d e f false false true m n k h g = grind (arith, nat_tests)
first-chain d e f false false false m n k h g = grind (arith, nat_tests)

nearer-one : (line : LineView) (a b : SplitView) → is_nearer line a b ≡ true → is_nearer line b a ≡ false
nearer-one line a b h =
    first-one (distance line.day a.day) (distance line.day b.day) (same_number line a) (same_number line b) a.split
    b.split h

nearer-chain : (line : LineView) (a b c : SplitView) → is_nearer line a b ≡ false → is_nearer line b c ≡ false
    → is_nearer line a c ≡ false
nearer-chain line a b c h g =
    first-chain (distance line.day a.day) (distance line.day b.day) (distance line.day c.day) (same_number line a)
    (same_number line b) (same_number line c) a.split b.split c.split h g

nearer-itself : (line : LineView) (a : SplitView) → is_nearer line a a ≡ false
nearer-itself line a = by_test (is_nearer line a a) refl
  where
    by_test : (t : Bool) → is_nearer line a a ≡ t → is_nearer line a a ≡ false
    by_test true e = nearer-one line a a e
    by_test false e = e

some_is : (a b : SplitView) → Some a ≡ Some b → a ≡ b
some_is a b e = cc

-- none of those gone through is nearer than the one that is left
none-nearer : (line : LineView) (other s : SplitView) (splits : List SplitView)
    → fold (λ o split. Some (nearer line o split)) (Some other) splits ≡ Some s
    → (is_nearer line other s ≡ false) × All (λ split. is_nearer line split s ≡ false) splits
none-nearer line other s [] e = (
  subst (λ (x : SplitView). is_nearer line other x ≡ false) (some_is other s e) (nearer-itself line other),
  All-nil (λ split. is_nearer line split s ≡ false),
)
none-nearer line other s (x ∷ xs) e =
    by_test (is_nearer line x other) refl (none-nearer line (nearer line (Some other) x) s xs e)
  where
    by_test : (t : Bool) → is_nearer line x other ≡ t
        → (is_nearer line (nearer line (Some other) x) s ≡ false) × All (λ split. is_nearer line split s ≡ false) xs
        → (is_nearer line other s ≡ false) × All (λ split. is_nearer line split s ≡ false) (x ∷ xs)
    by_test true is more =
        let here : is_nearer line x s ≡ false =
        ap (λ (t : Bool). is_nearer line (if t then x else other) s) (sym is) ∙ more.0 in (
          nearer-chain line other x s (nearer-one line x other is) here,
          All-cons (λ split. is_nearer line split s ≡ false) x xs here more.1,
        )
    by_test false is more =
        let here : is_nearer line other s ≡ false =
        ap (λ (t : Bool). is_nearer line (if t then x else other) s) (sym is) ∙ more.0 in
        (here, All-cons (λ split. is_nearer line split s ≡ false) x xs (nearer-chain line x other s is here) more.1)

-- the nearest of some splits is such that none of them is nearer
pub nearest-is_least : (line : LineView) (s : SplitView) (splits : List SplitView) → nearest line splits ≡ Some s
    → All (λ split. is_nearer line split s ≡ false) splits
nearest-is_least line s [] e = All-nil (λ split. is_nearer line split s ≡ false)
nearest-is_least line s (x ∷ xs) e =
    let more = none-nearer line x s xs e in All-cons (λ split. is_nearer line split s ≡ false) x xs more.0 more.1

-- ---- the choice of a line
-- one that is chosen of some: one of them, and none of them is nearer; none only where there are none
abbrev pub IsChosen : LineView → Option SplitView → List SplitView → Type 0
IsChosen line None splits = splits ≡ []
IsChosen line (Some s) splits = Contains splits s × All (λ split. is_nearer line split s ≡ false) splits

later : (x s : SplitView) (splits : List SplitView) → Contains splits s → Contains (x ∷ splits) s
later x s splits (k, lt, is) = (suc k, omega (arith, lt), is)

-- the one that is left of those gone through is the first or one of the others
one-of : (line : LineView) (other s : SplitView) (splits : List SplitView)
    → fold (λ o split. Some (nearer line o split)) (Some other) splits ≡ Some s → Contains (other ∷ splits) s
one-of line other s [] e = (zero, omega arith, some_is other s e)
one-of line other s (x ∷ xs) e =
    by_test (is_nearer line x other) (one-of line (nearer line (Some other) x) s xs e)
  where
    by_test : (t : Bool) → Contains ((if t then x else other) ∷ xs) s → Contains (other ∷ x ∷ xs) s
    by_test true has = later other s (x ∷ xs) has
    by_test false (zero, lt, is) = (zero, omega arith, is)
    by_test false (suc k, lt, is) = (suc (suc k), omega (arith, lt), is)

some_left : (line : LineView) (other : SplitView) (splits : List SplitView)
    → fold (λ o split. Some (nearer line o split)) (Some other) splits ≡ None → ⊥
some_left line other [] e = absurd cc
some_left line other (x ∷ xs) e = some_left line (nearer line (Some other) x) xs e

nearest-is : (line : LineView) (o : Option SplitView) (splits : List SplitView) → nearest line splits ≡ o
    → IsChosen line o splits
nearest-is line None [] e = refl
nearest-is line None (x ∷ xs) e = absurd (some_left line x xs e)
nearest-is line (Some s) [] e = absurd cc
nearest-is line (Some s) (x ∷ xs) e = (one-of line x s xs e, nearest-is_least line s (x ∷ xs) e)

-- the split that a line takes is one of the candidates, and no candidate is nearer; it takes none where there is none
pub choice-is : (window : ℕ) (line : LineView) (splits : List SplitView)
    → IsChosen line (choice window line splits) (filter (is_candidate window line) splits)
choice-is window line splits =
    nearest-is line (choice window line splits) (filter (is_candidate window line) splits) refl
