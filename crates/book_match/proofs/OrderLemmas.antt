-- Lines in order: what a stable sort by day and number gives is the definition's order.
use Rattle.std.proofs.Common.{◌≡◌, ℕ, suc, ◌<◌, ◌==◌, nat_lt, ℤ, Bool, true, false, if◌then◌else◌, not, ◌&&◌}
use Rattle.std.proofs.Common.{List, [], ◌∷◌, length, get_or, filter, map, refl, sym, ap, subst, ◌∙◌, add-one, arith}
use Rattle.std.proofs.lemmas.Bool.Decides.{nat_tests}
use Rattle.std.proofs.lemmas.Int.{ints}
use Rattle.std.specs.Cmp.{IsStrictWeakOrder}
use Rattle.std.specs.Ordering.{int_cmp, is_lt, nat_cmp, ordering_then}
use Rattle.std.specs.Prelude.{int_lt}
use Rattle.std.specs.declared.cmp.Ordering.TheVariants.{Less, Equal, Greater}
use Rattle.book_match.specs.Proposal.{comes_before, in_order, in_turn, with_line}
use Rattle.book_match.specs.declared.views.LineView.{LineView}
use Rattle.std.specs.List.Sorted.{IsSortedBy, IsStableBy, ties}

-- ---- rows of any kind, in an order that a test gives
-- no row comes before this one
AllPast : {X : Type 0} → (X → X → Bool) → X → List X → Type 0
AllPast lt x [] = Unit
AllPast lt x (row ∷ rows) = (lt row x ≡ false) × AllPast lt x rows

-- no row comes before one in front of it
Ascends : {X : Type 0} → (X → X → Bool) → List X → Type 0
Ascends lt [] = Unit
Ascends lt (row ∷ rows) = AllPast lt row rows × Ascends lt rows

-- rows with one more, in front of the first that doesn't come before it
abbrev pub with_row : {X : Type 0} → (X → X → Bool) → X → List X → List X
with_row lt row [] = row ∷ []
with_row lt row (first ∷ more) = if lt first row then first ∷ with_row lt row more else row ∷ first ∷ more

abbrev pub sorted : {X : Type 0} → (X → X → Bool) → List X → List X
sorted lt [] = []
sorted lt (row ∷ more) = with_row lt row (sorted lt more)

past-earlier : {X : Type 0} (lt : X → X → Bool) → IsStrictWeakOrder lt → (a b : X) (rows : List X) → lt b a ≡ false
    → AllPast lt b rows → AllPast lt a rows
unfolding AllPast
past-earlier lt o a b [] not_before all = tt
past-earlier lt o a b (row ∷ rows) not_before all =
    (o.chain row b a all.0 not_before, past-earlier lt o a b rows not_before all.1)

with-past : {X : Type 0} (lt : X → X → Bool) (x row : X) (rows : List X) → lt row x ≡ false → AllPast lt x rows
    → AllPast lt x (with_row lt row rows)
unfolding AllPast
with-past lt x row [] past all = (past, tt)
with-past lt x row (first ∷ more) past all =
    let P : Bool → Type 0 = λ t. AllPast lt x (if t then first ∷ with_row lt row more else row ∷ first ∷ more) in
    elim (lt first row) as P [
      | true ↦ (all.0, with-past lt x row more past all.1)
      | false ↦ (past, all)
    ]

with-ascends : {X : Type 0} (lt : X → X → Bool) → IsStrictWeakOrder lt → (row : X) (rows : List X) → Ascends lt rows
    → Ascends lt (with_row lt row rows)
unfolding AllPast Ascends
with-ascends lt o row [] up = (tt, tt)
with-ascends lt o row (first ∷ more) up =
    let P : Bool → Type 0 = λ t. lt first row ≡ t
    → Ascends lt (if t then first ∷ with_row lt row more else row ∷ first ∷ more) in
    elim (lt first row) as P [
      | true ↦ λ is. (with-past lt first row more (o.one_way first row is) up.0, with-ascends lt o row more up.1)
      | false ↦ λ is. ((is, past-earlier lt o row first more is up.0), up)
    ] refl

sorted-ascends : {X : Type 0} (lt : X → X → Bool) → IsStrictWeakOrder lt → (rows : List X)
    → Ascends lt (sorted lt rows)
unfolding Ascends
sorted-ascends lt o [] = tt
sorted-ascends lt o (row ∷ rows) = with-ascends lt o row (sorted lt rows) (sorted-ascends lt o rows)

tie-left : (a b : Bool) → (not a && not b) ≡ true → a ≡ false
tie-left true b e = absurd cc
tie-left false b e = refl

tie-right : (a b : Bool) → (not a && not b) ≡ true → b ≡ false
tie-right true b e = absurd cc
tie-right false true e = absurd cc
tie-right false false e = refl

-- rows that tie with one stand as they did
with-ties : {X : Type 0} (lt : X → X → Bool) → IsStrictWeakOrder lt → (x row : X) (rows : List X)
    → filter (ties lt x) (with_row lt row rows) ≡ filter (ties lt x) (row ∷ rows)
with-ties lt o x row [] = refl
with-ties {X} lt o x row (first ∷ more) =
    let P : Bool → Type 0 = λ t. lt first row ≡ t
    → filter (ties lt x) (if t then first ∷ with_row lt row more else row ∷ first ∷ more)
    ≡ filter (ties lt x) (row ∷ first ∷ more) in
    elim (lt first row) as P [
      | true ↦ λ is. passed (ties lt x first) (ties lt x row) refl refl (with-ties lt o x row more) is
      | false ↦ λ is. refl
    ] refl
  where
    passed : (s t : Bool) → ties lt x first ≡ s → ties lt x row ≡ t
        → filter (ties lt x) (with_row lt row more) ≡ filter (ties lt x) (row ∷ more) → lt first row ≡ true
        → filter (ties lt x) (first ∷ with_row lt row more) ≡ filter (ties lt x) (row ∷ first ∷ more)
    passed true true a b more_is less =
        absurd (let other = o.chain first x row (tie-right (lt x first) (lt first x) a)
        (tie-left (lt x row) (lt row x) b) in cc)
    passed true false a b more_is less = grind (arith, a, b, more_is)
    passed false true a b more_is less = grind (arith, a, b, more_is)
    passed false false a b more_is less = grind (arith, a, b, more_is)

sorted-ties : {X : Type 0} (lt : X → X → Bool) → IsStrictWeakOrder lt → (x : X) (rows : List X)
    → filter (ties lt x) (sorted lt rows) ≡ filter (ties lt x) rows
sorted-ties lt o x [] = refl
sorted-ties lt o x (row ∷ rows) =
    with-ties lt o x row (sorted lt rows) ∙ ap (λ l. if ties lt x row then row ∷ l else l) (sorted-ties lt o x rows)

-- ---- rows in order, with the same rows that tie with each, are the same
ties-of : (a b : Bool) → a ≡ false → b ≡ false → (not a && not b) ≡ true
ties-of a b e f = ap (λ (t : Bool). not t && not b) e ∙ ap (λ (t : Bool). not false && not t) f

apart-of : (a b : Bool) → a ≡ true → (not a && not b) ≡ false
apart-of a b e = ap (λ (t : Bool). not t && not b) e

none-ties : {X : Type 0} (lt : X → X → Bool) → IsStrictWeakOrder lt → (x y : X) (rows : List X) → lt x y ≡ true
    → AllPast lt y rows → filter (ties lt x) rows ≡ []
unfolding AllPast
none-ties lt o x y [] less all = refl
none-ties lt o x y (row ∷ rows) less all =
    let less_row : lt x row ≡ true = by_test (lt x row) refl in
    ap (λ (t : Bool). if t then row ∷ filter (ties lt x) rows else filter (ties lt x) rows)
    (apart-of (lt x row) (lt row x) less_row)
    ∙ none-ties lt o x y rows less all.1
  where
    by_test : (t : Bool) → lt x row ≡ t → lt x row ≡ true
    by_test true e = e
    by_test false e = absurd (let other = o.chain x row y e all.0 in cc)

itself : {X : Type 0} (lt : X → X → Bool) → IsStrictWeakOrder lt → (x : X) → lt x x ≡ false
itself lt o x = by_test (lt x x) refl
  where
    by_test : (t : Bool) → lt x x ≡ t → lt x x ≡ false
    by_test true e = o.one_way x x e
    by_test false e = e

first-ties : {X : Type 0} (lt : X → X → Bool) (x y : X) (rows : List X) → lt x y ≡ false → lt y x ≡ false
    → filter (ties lt x) (y ∷ rows) ≡ y ∷ filter (ties lt x) rows
first-ties lt x y rows e f =
    ap (λ (t : Bool). if t then y ∷ filter (ties lt x) rows else filter (ties lt x) rows)
    (ties-of (lt x y) (lt y x) e f)

cons_not_nil : {X : Type 0} (x : X) (rows : List X) → x ∷ rows ≡ [] → ⊥
cons_not_nil x rows e = cc

heads : {X : Type 0} (x y : X) (xs ys : List X) → x ∷ xs ≡ y ∷ ys → x ≡ y
heads x y xs ys e = cc

tails : {X : Type 0} (x : X) (xs ys : List X) → x ∷ xs ≡ x ∷ ys → xs ≡ ys
tails x xs ys e = cc

rest-ties : {X : Type 0} (t : Bool) (x : X) (xs ys : List X)
    → (if t then x ∷ xs else xs) ≡ (if t then x ∷ ys else ys) → xs ≡ ys
rest-ties true x xs ys e = tails x xs ys e
rest-ties false x xs ys e = e

by_tests : {P : Type 0} (s t : Bool) → (s ≡ true → P) → (t ≡ true → P) → (s ≡ false → t ≡ false → P) → P
by_tests true t one other neither = one refl
by_tests false true one other neither = other refl
by_tests false false one other neither = neither refl refl

same-rows : {X : Type 0} (lt : X → X → Bool) → IsStrictWeakOrder lt → (xs ys : List X) → Ascends lt xs → Ascends lt ys
    → ((x : X) → filter (ties lt x) xs ≡ filter (ties lt x) ys) → xs ≡ ys
unfolding AllPast Ascends
same-rows lt o [] [] up on same = refl
same-rows lt o [] (y ∷ ys) up on same =
    absurd (cons_not_nil y (filter (ties lt y) ys)
    (sym (first-ties lt y y ys (itself lt o y) (itself lt o y)) ∙ sym (same y)))
same-rows lt o (x ∷ xs) [] up on same =
    absurd (cons_not_nil x (filter (ties lt x) xs)
    (sym (first-ties lt x x xs (itself lt o x) (itself lt o x)) ∙ same x))
same-rows {X} lt o (x ∷ xs) (y ∷ ys) up on same =
    let own_x = first-ties lt x x xs (itself lt o x) (itself lt o x) in
    let own_y = first-ties lt y y ys (itself lt o y) (itself lt o y) in
    by_tests (lt x y) (lt y x)
    (λ less. absurd (cons_not_nil x (filter (ties lt x) xs) (sym own_x ∙ same x
    ∙ none-ties lt o x y (y ∷ ys) less (itself lt o y, on.0))))
    (λ less. absurd (cons_not_nil y (filter (ties lt y) ys) (sym own_y ∙ sym (same y)
    ∙ none-ties lt o y x (x ∷ xs) less (itself lt o x, up.0))))
    (λ e f.
    let is : x ≡ y = heads x y (filter (ties lt x) xs) (filter (ties lt x) ys)
    (sym own_x ∙ same x ∙ first-ties lt x y ys e f) in
    let more : xs ≡ ys = same-rows lt o xs ys up.1 on.1 (λ z. rest-ties (ties lt z x) x _ _
    (same z ∙ ap (λ (r : X). filter (ties lt z) (r ∷ ys)) (sym is))) in
    ap (λ l. x ∷ l) more ∙ ap (λ (r : X). r ∷ ys) is)

-- ---- what a stable sort leaves
from-sorted : {X : Type 0} (lt : X → X → Bool) → IsStrictWeakOrder lt → (x : X) (rows : List X)
    → ((k : ℕ) (d : X) → suc k < length (x ∷ rows)
    → lt (get_or (x ∷ rows) (suc k) d) (get_or (x ∷ rows) k d) ≡ false)
    → AllPast lt x rows
unfolding AllPast
from-sorted lt o x [] up = tt
from-sorted lt o x (y ∷ ys) up =
    let first : lt y x ≡ false = up 0 x (omega arith) in
    (first, past-earlier lt o x y ys first (from-sorted lt o y ys (λ k d less. up (suc k) d (omega (arith, less)))))

all-sorted : {X : Type 0} (lt : X → X → Bool) → IsStrictWeakOrder lt → (rows : List X)
    → ((k : ℕ) (d : X) → suc k < length rows → lt (get_or rows (suc k) d) (get_or rows k d) ≡ false)
    → Ascends lt rows
unfolding Ascends
all-sorted lt o [] up = tt
all-sorted lt o (x ∷ rows) up =
    (from-sorted lt o x rows up, all-sorted lt o rows (λ k d less. up (suc k) d (omega (arith, less))))

pub sorted-is : {X : Type 0} (lt : X → X → Bool) → IsStrictWeakOrder lt → (before after : List X) → IsSortedBy lt after
    → IsStableBy lt before after → after ≡ sorted lt before
sorted-is {X} lt o before after up stable =
    same-rows lt o after (sorted lt before)
    (all-sorted lt o after (λ k d less. subst (λ (n : ℕ). lt (get_or after n d) (get_or after k d) ≡ false) (add-one k)
    (up k d (omega arith) (omega (arith, less)))))
    (sorted-ascends lt o before) (λ x. stable x ∙ sym (sorted-ties lt o x before))

-- ---- rows that are seen as others, in the same order
with-mapped : {X Y : Type 0} (lt : X → X → Bool) (less : Y → Y → Bool) (f : X → Y)
    → ((a b : X) → lt a b ≡ less (f a) (f b)) → (row : X) (rows : List X)
    → map f (with_row lt row rows) ≡ with_row less (f row) (map f rows)
with-mapped lt less f same row [] = refl
with-mapped {X} {Y} lt less f same row (first ∷ more) =
    by_test (lt first row) (less (f first) (f row)) (same first row) (with-mapped lt less f same row more)
  where
    by_test : (s t : Bool) → s ≡ t → map f (with_row lt row more) ≡ with_row less (f row) (map f more)
        → map f (if s then first ∷ with_row lt row more else row ∷ first ∷ more)
        ≡ (if t then f first ∷ with_row less (f row) (map f more) else f row ∷ f first ∷ map f more)
    by_test true true e more_is = ap (λ l. f first ∷ l) more_is
    by_test false false e more_is = refl
    by_test true false e more_is = absurd cc
    by_test false true e more_is = absurd cc

pub sorted-mapped : {X Y : Type 0} (lt : X → X → Bool) (less : Y → Y → Bool) (f : X → Y)
    → ((a b : X) → lt a b ≡ less (f a) (f b)) → (rows : List X)
    → map f (sorted lt rows) ≡ sorted less (map f rows)
sorted-mapped lt less f same [] = refl
sorted-mapped lt less f same (row ∷ rows) =
    with-mapped lt less f same row (sorted lt rows) ∙ ap (with_row less (f row)) (sorted-mapped lt less f same rows)

-- an order by what rows are seen as
pub order-by : {X Y : Type 0} (lt : X → X → Bool) (less : Y → Y → Bool) (f : X → Y)
    → ((a b : X) → lt a b ≡ less (f a) (f b)) → IsStrictWeakOrder less → IsStrictWeakOrder lt
order-by lt less f same o = record {
  one_way = λ x y e. same y x ∙ o.one_way (f x) (f y) (sym (same x y) ∙ e);
  chain = λ x y z e g. same x z ∙ o.chain (f x) (f y) (f z) (sym (same x y) ∙ e) (sym (same y z) ∙ g);
}

-- ---- lines by day and number
turn-one : (a b : ℤ) (c d : ℕ) → in_turn (int_lt a b) (int_lt b a) (nat_lt c d) ≡ true
    → in_turn (int_lt b a) (int_lt a b) (nat_lt d c) ≡ false
turn-one a b c d e = grind (arith, ints, nat_tests)

turn-chain : (a b c : ℤ) (m n k : ℕ) → in_turn (int_lt a b) (int_lt b a) (nat_lt m n) ≡ false
    → in_turn (int_lt b c) (int_lt c b) (nat_lt n k) ≡ false
    → in_turn (int_lt a c) (int_lt c a) (nat_lt m k) ≡ false
turn-chain a b c m n k e f = grind (arith, ints, nat_tests)

pub lines-order : IsStrictWeakOrder comes_before
lines-order = record {
  one_way = λ x y e. turn-one x.day y.day x.line y.line e;
  chain = λ x y z e f. turn-chain x.day y.day z.day x.line y.line z.line e f;
}

pub key-less : (a b : ℤ) (c d : ℕ)
    → is_lt (ordering_then (int_cmp a b) (nat_cmp c d)) ≡ in_turn (int_lt a b) (int_lt b a) (nat_lt c d)
key-less a b c d = by_tests_of (int_lt a b) (int_lt b a) (nat_lt c d) (c == d)
  where
    by_tests_of : (s t u v : Bool)
        → is_lt (ordering_then (if s then Less else (if t then Greater else Equal))
        (if u then Less else (if v then Equal else Greater)))
        ≡ in_turn s t u
    by_tests_of true t u v = refl
    by_tests_of false true u v = refl
    by_tests_of false false true v = refl
    by_tests_of false false false true = refl
    by_tests_of false false false false = refl

with_line-is : (line : LineView) (lines : List LineView) → with_line line lines ≡ with_row comes_before line lines
with_line-is line [] = refl
with_line-is line (first ∷ more) =
    ap (λ l. if comes_before first line then first ∷ l else line ∷ first ∷ more) (with_line-is line more)

pub in_order-is : (lines : List LineView) → in_order lines ≡ sorted comes_before lines
in_order-is [] = refl
in_order-is (line ∷ lines) = with_line-is line (in_order lines) ∙ ap (with_row comes_before line) (in_order-is lines)
