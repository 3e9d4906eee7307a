-- Splits in the order of the index: where one stands, and what one put in or taken out leaves.
use Rattle.std.proofs.Common.{◌≡◌, ℕ, zero, suc, ◌-◌, ◌<◌, ◌≤◌, nat_lt, ℤ, Bool, true, false, not, ◌&&◌, ◌||◌}
use Rattle.std.proofs.Common.{if◌then◌else◌, List, [], ◌∷◌, length, get_or, take, drop, filter, refl, sym, ap}
use Rattle.std.proofs.Common.{◌∙◌, arith, ◌+◌, ◌++◌}
use Rattle.std.proofs.Math.Seq.{take-add}
use Rattle.std.proofs.lemmas.List.{drop-drop, take-take}
use Rattle.std.proofs.lemmas.Bool.Decides.{nat_tests, Decides-int_eq}
use Rattle.std.proofs.lemmas.Int.{ints}
use Rattle.std.specs.List.{insert, remove}
use Rattle.std.specs.Prelude.{int_lt}
use Rattle.book_seq.specs.Cuts.{IsCut, IsParted, NonePasses}
use Rattle.book_match.specs.AmountIndex.{PrecedesAll, Rises, is_of_amount, is_same, is_there, of_amount, precedes}
use Rattle.book_match.specs.AmountIndex.{with_free, without_free}
use Rattle.book_match.specs.Bounds.{is_near, is_past_amount, is_past_days, is_under_amount, is_under_days}
use Rattle.book_match.specs.Proposal.{in_turn}
use Rattle.book_match.specs.declared.free.Free.{Free}

-- ---- the order
nat-trans : (a b c : ℕ) (u v w : Bool) → (u ≡ true → v ≡ true → w ≡ true) → in_turn (nat_lt a b) (nat_lt b a) u ≡ true
    → in_turn (nat_lt b c) (nat_lt c b) v ≡ true → in_turn (nat_lt a c) (nat_lt c a) w ≡ true
nat-trans a b c true true w next e f = let is = next refl refl in grind (arith, nat_tests, is)
nat-trans a b c true false w next e f = grind (arith, nat_tests)
nat-trans a b c false v w next e f = grind (arith, nat_tests)

int-trans : (a b c : ℤ) (u v w : Bool) → (u ≡ true → v ≡ true → w ≡ true) → in_turn (int_lt a b) (int_lt b a) u ≡ true
    → in_turn (int_lt b c) (int_lt c b) v ≡ true → in_turn (int_lt a c) (int_lt c a) w ≡ true
int-trans a b c true true w next e f = let is = next refl refl in grind (arith, ints, is)
int-trans a b c true false w next e f = grind (arith, ints)
int-trans a b c false v w next e f = grind (arith, ints)

less-trans : (a b c : ℕ) → nat_lt a b ≡ true → nat_lt b c ≡ true → nat_lt a c ≡ true
less-trans a b c e f = grind (arith, nat_tests)

abbrev by_day : Free → Free → Bool
by_day a b = in_turn (int_lt a.day b.day) (int_lt b.day a.day) (nat_lt a.split b.split)

abbrev by_amount : Free → Free → Bool
by_amount a b = in_turn (int_lt a.amount b.amount) (int_lt b.amount a.amount) (by_day a b)

pub precedes-trans : (a b c : Free) → precedes a b ≡ true → precedes b c ≡ true → precedes a c ≡ true
precedes-trans a b c e f =
    nat-trans a.account b.account c.account (by_amount a b) (by_amount b c) (by_amount a c)
    (int-trans a.amount b.amount c.amount (by_day a b) (by_day b c) (by_day a c)
    (int-trans a.day b.day c.day (nat_lt a.split b.split) (nat_lt b.split c.split) (nat_lt a.split c.split)
    (less-trans a.split b.split c.split)))
    e f

pub before-other : (free entry : Free) → precedes entry free ≡ true → is_same free entry ≡ false
before-other free entry before = grind (arith, ints, nat_tests, Decides-int_eq)

pub after-other : (free entry : Free) → precedes free entry ≡ true → is_same free entry ≡ false
after-other free entry after = grind (arith, ints, nat_tests, Decides-int_eq)

pub after-neither : (free entry : Free) → precedes entry free ≡ false → is_same free entry ≡ false
    → precedes free entry ≡ true
after-neither free entry before other = grind (arith, ints, nat_tests, Decides-int_eq)

-- what comes before a split that isn't past an amount isn't past it, and so on
under-before : (account : ℕ) (amount : ℤ) (a b : Free) → precedes a b ≡ true → is_under_amount account amount b ≡ true
    → is_under_amount account amount a ≡ true
under-before account amount a b e f = grind (arith, ints, nat_tests)

past-before : (account : ℕ) (amount : ℤ) (a b : Free) → precedes a b ≡ true
    → not (is_past_amount account amount b) ≡ true → not (is_past_amount account amount a) ≡ true
past-before account amount a b e f = grind (arith, ints, nat_tests)

-- a split is of the amount where it is neither before nor behind those of it
between : (account : ℕ) (amount : ℤ) (e : Free)
    → is_of_amount account amount e ≡ (not (is_under_amount account amount e) && not (is_past_amount account amount e))
between account amount e = grind (arith, ints, nat_tests, Decides-int_eq)

under-not_past : (account : ℕ) (amount : ℤ) (e : Free) → is_under_amount account amount e ≡ true
    → not (is_past_amount account amount e) ≡ true
under-not_past account amount e h = grind (arith, ints, nat_tests)

-- and the same for those of an amount that are so near to a day
under_days-before : (account : ℕ) (amount day : ℤ) (window : ℕ) (a b : Free) → precedes a b ≡ true
    → is_under_days account amount day window b ≡ true → is_under_days account amount day window a ≡ true
under_days-before account amount day window a b e f = grind (arith, ints, nat_tests)

past_days-before : (account : ℕ) (amount day : ℤ) (window : ℕ) (a b : Free) → precedes a b ≡ true
    → not (is_past_days account amount day window b) ≡ true → not (is_past_days account amount day window a) ≡ true
past_days-before account amount day window a b e f = grind (arith, ints, nat_tests)

between_days : (account : ℕ) (amount day : ℤ) (window : ℕ) (e : Free)
    → is_near account amount day window e
    ≡ (not (is_under_days account amount day window e) && not (is_past_days account amount day window e))
between_days account amount day window e = grind (arith, ints, nat_tests, Decides-int_eq)

under_days-not_past : (account : ℕ) (amount day : ℤ) (window : ℕ) (e : Free)
    → is_under_days account amount day window e ≡ true → not (is_past_days account amount day window e) ≡ true
under_days-not_past account amount day window e h = grind (arith, ints, nat_tests)

-- ---- rising splits
-- a test that splits pass which come before one that passes it parts rising splits in two
none-after : (test : Free → Bool) → ((a b : Free) → precedes a b ≡ true → test b ≡ true → test a ≡ true)
    → (free : Free) (es : List Free) → PrecedesAll free es → test free ≡ false → NonePasses test es
none-after test down free [] all fails = tt
none-after test down free (e ∷ es) all fails = (by_test (test e) refl, none-after test down free es all.1 fails)
  where
    by_test : (t : Bool) → test e ≡ t → test e ≡ false
    by_test true is = absurd (let passes = down free e all.0 is in cc)
    by_test false is = is

parted : (test : Free → Bool) → ((a b : Free) → precedes a b ≡ true → test b ≡ true → test a ≡ true)
    → (es : List Free) → Rises es → IsParted test es
parted test down [] up = tt
parted test down (e ∷ es) up = (none-after test down e es up.0, parted test down es up.1)

pub parted-before : (free : Free) (es : List Free) → Rises es → IsParted (λ entry. precedes entry free) es
parted-before free es up = parted (λ entry. precedes entry free) (λ a b e f. precedes-trans a b free e f) es up

pub parted-under : (account : ℕ) (amount : ℤ) (es : List Free) → Rises es
    → IsParted (is_under_amount account amount) es
parted-under account amount es up = parted (is_under_amount account amount) (under-before account amount) es up

pub parted-past : (account : ℕ) (amount : ℤ) (es : List Free) → Rises es
    → IsParted (λ entry. not (is_past_amount account amount entry)) es
parted-past account amount es up =
    parted (λ entry. not (is_past_amount account amount entry)) (past-before account amount) es up

pub parted-under_days : (account : ℕ) (amount day : ℤ) (window : ℕ) (es : List Free) → Rises es
    → IsParted (is_under_days account amount day window) es
parted-under_days account amount day window es up =
    parted (is_under_days account amount day window) (under_days-before account amount day window) es up

pub parted-past_days : (account : ℕ) (amount day : ℤ) (window : ℕ) (es : List Free) → Rises es
    → IsParted (λ entry. not (is_past_days account amount day window entry)) es
parted-past_days account amount day window es up =
    parted (λ entry. not (is_past_days account amount day window entry)) (past_days-before account amount day window)
    es up

-- ---- what is put in and taken out there
pub insert-is : (free : Free) (es : List Free) (i : ℕ) → IsCut (λ entry. precedes entry free) es i
    → insert es i free ≡ with_free free es
insert-is free [] zero cut = refl
insert-is free [] (suc i) cut = absurd cut
insert-is free (e ∷ es) zero cut = ap (λ (t : Bool). if t then e ∷ with_free free es else free ∷ e ∷ es) (sym cut.0)
insert-is free (e ∷ es) (suc i) cut =
    ap (λ l. e ∷ l) (insert-is free es i cut.1)
    ∙ ap (λ (t : Bool). if t then e ∷ with_free free es else free ∷ e ∷ es) (sym cut.0)

pub remove-is : (free : Free) (es : List Free) (i : ℕ) (d : Free) → IsCut (λ entry. precedes entry free) es i
    → i < length es → is_same free (get_or es i d) ≡ true → remove es i ≡ without_free free es
remove-is free [] i d cut lt same = absurd (omega (arith, lt))
remove-is free (e ∷ es) zero d cut lt same =
    ap (λ (t : Bool). if t then es else e ∷ without_free free es) (sym same)
remove-is free (e ∷ es) (suc i) d cut lt same =
    ap (λ l. e ∷ l) (remove-is free es i d cut.1 (omega (arith, lt)) same)
    ∙ ap (λ (t : Bool). if t then es else e ∷ without_free free es) (sym (before-other free e cut.0))

pub there : (free : Free) (es : List Free) (i : ℕ) (d : Free) → IsCut (λ entry. precedes entry free) es i
    → i < length es → is_same free (get_or es i d) ≡ true → is_there free es ≡ true
there free [] i d cut lt same = absurd (omega (arith, lt))
there free (e ∷ es) zero d cut lt same = ap (λ (t : Bool). t || is_there free es) same
there free (e ∷ es) (suc i) d cut lt same =
    ap (λ (t : Bool). t || is_there free es) (before-other free e cut.0)
    ∙ there free es i d cut.1 (omega (arith, lt)) same

pub none-behind : (free : Free) (es : List Free) → PrecedesAll free es → is_there free es ≡ false
none-behind free [] all = refl
none-behind free (e ∷ es) all =
    ap (λ (t : Bool). t || is_there free es) (after-other free e all.0) ∙ none-behind free es all.1

pub all-behind : (a b : Free) (es : List Free) → precedes a b ≡ true → PrecedesAll b es → PrecedesAll a es
all-behind a b [] less all = tt
all-behind a b (e ∷ es) less all = (precedes-trans a b e less all.0, all-behind a b es less all.1)

-- where the split at the place is another, or there is none, it isn't there
pub not-there : (free : Free) (es : List Free) (i : ℕ) → Rises es → IsCut (λ entry. precedes entry free) es i
    → ((d : Free) → i < length es → is_same free (get_or es i d) ≡ false) → is_there free es ≡ false
not-there free [] i up cut other = refl
not-there free (e ∷ es) zero up cut other =
    let apart : is_same free e ≡ false = other e (omega arith) in
    ap (λ (t : Bool). t || is_there free es) apart
    ∙ none-behind free es (all-behind free e es (after-neither free e cut.0 apart) up.0)
not-there free (e ∷ es) (suc i) up cut other =
    ap (λ (t : Bool). t || is_there free es) (before-other free e cut.0)
    ∙ not-there free es i up.1 cut.1 (λ d lt. other d (omega (arith, lt)))

-- and then nothing is to be taken
pub none-without : (free : Free) (es : List Free) → is_there free es ≡ false → without_free free es ≡ es
none-without free [] none = refl
none-without free (e ∷ es) none = by_test (is_same free e) refl none (none-without free es)
  where
    by_test : (t : Bool) → is_same free e ≡ t → (is_same free e || is_there free es) ≡ false
        → (is_there free es ≡ false → without_free free es ≡ es) → without_free free (e ∷ es) ≡ e ∷ es
    by_test true is none more =
        absurd (let some : (is_same free e || is_there free es) ≡ true = ap (λ (t : Bool). t || is_there free es) is in
        cc)
    by_test false is none more =
        ap (λ (t : Bool). if t then es else e ∷ without_free free es) is
        ∙ ap (λ l. e ∷ l) (more (ap (λ (t : Bool). t || is_there free es) (sym is) ∙ none))

-- ---- one put in behind the others, and a part of them
pub insert-last : (es : List Free) (i : ℕ) (free : Free) → i ≡ length es → insert es i free ≡ es ++ free ∷ []
insert-last es i free is =
    ap (λ n. insert es n free) (is ∙ let same : length es ≡ length es + 0 = omega arith in same)
    ∙ inserted es
  where
    inserted : (xs : List Free) → insert xs (length xs + 0) free ≡ xs ++ free ∷ []
    inserted [] = ap (λ n. insert [] n free) (let same : 0 + 0 ≡ 0 = omega arith in same)
    inserted (x ∷ xs) =
        ap (λ n. insert (x ∷ xs) n free)
        (let same : suc (length xs) + 0 ≡ suc (length xs + 0) = omega arith in same)
        ∙ ap (λ l. x ∷ l) (inserted xs)

-- so many more of the splits from a place on, of which a part was read
pub part-more : (es splits part : List Free) (start place count : ℕ) → start ≤ place
    → splits ≡ take (place - start) (drop start es) → part ≡ take (length part) (drop place es) → count ≤ length part
    → splits ++ take count part ≡ take (place + count - start) (drop start es)
part-more es splits part start place count le so_far here few =
    let rest : drop (place - start) (drop start es) ≡ drop place es =
    drop-drop (place - start) start es ∙ ap (λ n. drop n es) (let same : start + (place - start) ≡ place = omega (arith, le) in same) in
    let taken : take count part ≡ take count (drop (place - start) (drop start es)) =
    ap (take count) here ∙ take-take count (length part) (drop place es) few ∙ ap (take count) (sym rest) in
    ap (λ l. l ++ take count part) so_far ∙ ap (λ l. take (place - start) (drop start es) ++ l) taken
    ∙ sym (take-add (place - start) count (drop start es)) ∙ ap (λ n. take n (drop start es))
    (let same : (place - start) + count ≡ place + count - start = omega (arith, le) in same)

-- ---- the splits still rise
all-with : (x free : Free) (es : List Free) → precedes x free ≡ true → PrecedesAll x es
    → PrecedesAll x (with_free free es)
all-with x free [] less all = (less, tt)
all-with x free (e ∷ es) less all =
    let P : Bool → Type 0 = λ t. PrecedesAll x (if t then e ∷ with_free free es else free ∷ e ∷ es) in
    elim (precedes e free) as P [
      | true ↦ (all.0, all-with x free es less all.1)
      | false ↦ (less, all)
    ]

pub rises-with : (free : Free) (es : List Free) → Rises es → is_there free es ≡ false → Rises (with_free free es)
rises-with free [] up none = (tt, tt)
rises-with free (e ∷ es) up none =
    by_test (precedes e free) refl (apart (is_same free e) (is_there free es) none)
    (rises-with free es up.1 (rest (is_same free e) (is_there free es) none))
  where
    apart : (s t : Bool) → (s || t) ≡ false → s ≡ false
    apart true t e = e
    apart false t e = refl

    rest : (s t : Bool) → (s || t) ≡ false → t ≡ false
    rest true t e = absurd cc
    rest false t e = e

    by_test : (t : Bool) → precedes e free ≡ t → is_same free e ≡ false → Rises (with_free free es)
        → Rises (if t then e ∷ with_free free es else free ∷ e ∷ es)
    by_test true is other more = (all-with e free es is up.0, more)
    by_test false is other more =
        let less = after-neither free e is other in ((less, all-behind free e es less up.0), up)

all-without : (x free : Free) (es : List Free) → PrecedesAll x es → PrecedesAll x (without_free free es)
all-without x free [] all = tt
all-without x free (e ∷ es) all =
    let P : Bool → Type 0 = λ t. PrecedesAll x (if t then es else e ∷ without_free free es) in
    elim (is_same free e) as P [ true ↦ all.1 | false ↦ (all.0, all-without x free es all.1) ]

pub rises-without : (free : Free) (es : List Free) → Rises es → Rises (without_free free es)
rises-without free [] up = tt
rises-without free (e ∷ es) up =
    let P : Bool → Type 0 = λ t. Rises (if t then es else e ∷ without_free free es) in
    elim (is_same free e) as P [
      | true ↦ up.1
      | false ↦ (all-without e free es up.0, rises-without free es up.1)
    ]

-- ---- the splits of one amount
none-kept : (test kept : Free → Bool) (es : List Free) → ((e : Free) → test e ≡ false → kept e ≡ false)
    → NonePasses test es → filter kept es ≡ []
none-kept test kept [] asks none = refl
none-kept test kept (e ∷ es) asks none =
    ap (λ (t : Bool). if t then e ∷ filter kept es else filter kept es) (asks e none.0)
    ∙ none-kept test kept es asks none.1

range-is : (low high kept : Free → Bool) (es : List Free) (i j : ℕ) → IsCut low es i → IsCut high es j
    → ((e : Free) → low e ≡ true → high e ≡ true) → ((e : Free) → kept e ≡ (not (low e) && high e))
    → take (j - i) (drop i es) ≡ filter kept es
range-is low high kept [] zero zero cut end within same = refl
range-is low high kept [] (suc i) j cut end within same = absurd cut
range-is low high kept [] zero (suc j) cut end within same = absurd end
range-is low high kept (e ∷ es) zero zero cut end within same =
    sym (none-kept high kept (e ∷ es) (λ x h. same x ∙ past (low x) (high x) h) end)
  where
    past : (s t : Bool) → t ≡ false → (not s && t) ≡ false
    past true t h = refl
    past false t h = h
range-is low high kept (e ∷ es) zero (suc j) cut end within same =
    let passes : kept e ≡ true =
    same e ∙ ap (λ (t : Bool). not t && high e) cut.0 ∙ end.0 in
    let all : suc j - 0 ≡ suc j = omega arith in
    let rest : j - 0 ≡ j = omega arith in
    ap (λ n. take n (e ∷ es)) all
    ∙ ap (λ l. e ∷ l) (ap (λ n. take n es) (sym rest) ∙ range-is low high kept es zero j cut.1 end.1 within same)
    ∙ ap (λ (t : Bool). if t then e ∷ filter kept es else filter kept es) (sym passes)
range-is low high kept (e ∷ es) (suc i) zero cut end within same =
    absurd (let both = within e cut.0 in let other = end.0 in cc)
range-is low high kept (e ∷ es) (suc i) (suc j) cut end within same =
    let fails : kept e ≡ false = same e ∙ ap (λ (t : Bool). not t && high e) cut.0 in
    let fewer : suc j - suc i ≡ j - i = omega arith in
    ap (λ n. take n (drop i es)) fewer ∙ range-is low high kept es i j cut.1 end.1 within same
    ∙ ap (λ (t : Bool). if t then e ∷ filter kept es else filter kept es) (sym fails)

cut-below : (low high : Free → Bool) (es : List Free) (i j : ℕ) → IsCut low es i → IsCut high es j
    → ((e : Free) → low e ≡ true → high e ≡ true) → i ≤ j
cut-below low high es zero j cut end within = omega arith
cut-below low high [] (suc i) j cut end within = absurd cut
cut-below low high (e ∷ es) (suc i) zero cut end within =
    absurd (let both = within e cut.0 in let other = end.0 in cc)
cut-below low high (e ∷ es) (suc i) (suc j) cut end within =
    let less = cut-below low high es i j cut.1 end.1 within in omega (arith, less)

pub amount-is : (account : ℕ) (amount : ℤ) (es : List Free) (i j : ℕ) → IsCut (is_under_amount account amount) es i
    → IsCut (λ entry. not (is_past_amount account amount entry)) es j
    → take (j - i) (drop i es) ≡ of_amount account amount es
amount-is account amount es i j cut end =
    range-is (is_under_amount account amount) (λ entry. not (is_past_amount account amount entry))
    (is_of_amount account amount) es i j cut end (under-not_past account amount) (between account amount)

pub amount-within : (account : ℕ) (amount : ℤ) (es : List Free) (i j : ℕ) → IsCut (is_under_amount account amount) es i
    → IsCut (λ entry. not (is_past_amount account amount entry)) es j → i ≤ j
amount-within account amount es i j cut end =
    cut-below (is_under_amount account amount) (λ entry. not (is_past_amount account amount entry)) es i j cut end
    (under-not_past account amount)

-- ---- the splits of one amount that are so near to a day
pub near-is : (account : ℕ) (amount day : ℤ) (window : ℕ) (es : List Free) (i j : ℕ)
    → IsCut (is_under_days account amount day window) es i
    → IsCut (λ entry. not (is_past_days account amount day window entry)) es j
    → take (j - i) (drop i es) ≡ filter (is_near account amount day window) es
near-is account amount day window es i j cut end =
    range-is (is_under_days account amount day window) (λ entry. not (is_past_days account amount day window entry))
    (is_near account amount day window) es i j cut end (under_days-not_past account amount day window)
    (between_days account amount day window)

pub near-within : (account : ℕ) (amount day : ℤ) (window : ℕ) (es : List Free) (i j : ℕ)
    → IsCut (is_under_days account amount day window) es i
    → IsCut (λ entry. not (is_past_days account amount day window entry)) es j → i ≤ j
near-within account amount day window es i j cut end =
    cut-below (is_under_days account amount day window) (λ entry. not (is_past_days account amount day window entry))
    es i j cut end (under_days-not_past account amount day window)
