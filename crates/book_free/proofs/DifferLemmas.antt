-- How many splits stand in one of two lists alone, where splits are taken out of one of them and put into it.
use Rattle.std.proofs.Common.{◌≡◌, ℕ, ◌+◌, Bool, true, false, not, ◌&&◌, ◌||◌, if◌then◌else◌, List, [], ◌∷◌}
use Rattle.std.proofs.Common.{All, cond, count_by, get_or, length, refl, sym, ap, subst, ◌∙◌, arith}
use Rattle.std.proofs.lemmas.List.Elements.{All-cons, All-head, All-nil, All-tail, All-weaker}
use Rattle.std.proofs.lemmas.List.Sums.{sum_by-cons}
use Rattle.book_match.specs.AmountIndex.{PrecedesAll, Rises, is_same, is_there, precedes, with_all, with_free}
use Rattle.book_match.specs.AmountIndex.{without_all, without_free}
use Rattle.book_match.specs.declared.free.Free.{Free}
use Rattle.book_match.proofs.IndexLaws.{first-there, same-is, same-itself, there-with, there-without}
use Rattle.book_match.proofs.IndexLemmas.{none-behind, rises-without}
use Rattle.book_free.specs.Kept.{differing}

-- ---- how many of a list stand in another

-- How many a test counts of one.
abbrev one_if : Bool → ℕ
one_if true = 1
one_if false = 0

same_turned : (a b : Free) (t : Bool) → is_same a b ≡ t → is_same b a ≡ t
same_turned a b true e = ap (is_same b) (same-is a b e) ∙ same-itself b
same_turned a b false e = by_test (is_same b a) refl
  where
    by_test : (t : Bool) → is_same b a ≡ t → t ≡ false
    by_test true f =
        absurd (let one = ap (is_same a) (same-is b a f) ∙ same-itself a in cc)
    by_test false f = refl

count_cons : (p : Free → Bool) (x : Free) (xs : List Free) → count_by p (x ∷ xs) ≡ cond (p x) 1 0 + count_by p xs
count_cons p x xs = sum_by-cons (λ (y : Free). cond (p y) 1 0) x xs

counted : (p : Free → Bool) (x : Free) (xs : List Free) (b : Bool) → p x ≡ b
    → count_by p (x ∷ xs) ≡ cond b 1 0 + count_by p xs
counted p x xs b is = count_cons p x xs ∙ ap (λ (t : Bool). cond t 1 0 + count_by p xs) is

same_count : (p q : Free → Bool) (xs : List Free) → All (λ (x : Free). p x ≡ q x) xs → count_by p xs ≡ count_by q xs
same_count p q [] all = refl
same_count p q (x ∷ xs) all =
    let Same : Free → Type 0 = λ y. p y ≡ q y in
    counted p x xs (q x) (All-head Same x xs all)
    ∙ ap (λ (n : ℕ). cond (q x) 1 0 + n) (same_count p q xs (All-tail Same x xs all))
    ∙ sym (count_cons q x xs)

-- those of a rising list that are not in another, which loses one that both have
lost_more : (g : Free) (test : Free → Bool) (xs : List Free) → Rises xs → test g ≡ true
    → count_by (λ x. not (not (is_same x g) && test x)) xs
    ≡ count_by (λ x. not (test x)) xs + one_if (is_there g xs)
lost_more g test [] r passes = refl
lost_more g test (x ∷ xs) r passes =
    let more : Free → Bool = λ y. not (not (is_same y g) && test y) in
    let fewer : Free → Bool = λ y. not (test y) in
    let rest = lost_more g test xs r.1 passes in
    elim (is_same g x) as (λ (t : Bool). is_same g x ≡ t
    → count_by more (x ∷ xs) ≡ count_by fewer (x ∷ xs) + one_if (t || is_there g xs)) [
      | true ↦ λ same.
          let is = same-is g x same in
          let own : test x ≡ true = ap test (sym is) ∙ passes in
          let none : one_if (is_there g xs) ≡ 0 =
          ap one_if (none-behind g xs (subst (λ (y : Free). PrecedesAll y xs) (sym is) r.0)) in
          let one = counted more x xs true (ap (λ (b : Bool). not (not b && test x)) (same_turned g x true same)) in
          let other = counted fewer x xs false (ap not own) in
          omega (arith, one, other, rest, none)
      | false ↦ λ differs.
          let is : more x ≡ fewer x = ap (λ (b : Bool). not (not b && test x)) (same_turned g x false differs) in
          let one = counted more x xs (fewer x) is in
          let other = count_cons fewer x xs in
          omega (arith, one, other, rest)
    ] refl

-- those that pass no test are counted as before where one that doesn't is taken out,
counted_without : (g : Free) (test : Free → Bool) (es : List Free) → test g ≡ false
    → count_by test (without_free g es) ≡ count_by test es
counted_without g test [] fails = refl
counted_without g test (e ∷ es) fails =
    elim (is_same g e) as (λ (t : Bool). is_same g e ≡ t
    → count_by test (if t then es else e ∷ without_free g es) ≡ count_by test (e ∷ es)) [
      | true ↦ λ same.
          let own : test e ≡ false = ap test (sym (same-is g e same)) ∙ fails in
          omega (arith, counted test e es false own)
      | false ↦ λ differs.
          count_cons test e (without_free g es)
          ∙ ap (λ (n : ℕ). cond (test e) 1 0 + n) (counted_without g test es fails)
          ∙ sym (count_cons test e es)
    ] refl

-- and one more where one that does is put in
counted_with : (g : Free) (test : Free → Bool) (es : List Free) → test g ≡ true
    → count_by test (with_free g es) ≡ 1 + count_by test es
counted_with g test [] passes = counted test g [] true passes
counted_with g test (e ∷ es) passes =
    elim (precedes e g) as (λ (t : Bool).
    count_by test (if t then e ∷ with_free g es else g ∷ e ∷ es) ≡ 1 + count_by test (e ∷ es)) [
      | true ↦
          let one = count_cons test e (with_free g es) in
          let rest = counted_with g test es passes in
          let other = count_cons test e es in
          omega (arith, one, rest, other)
      | false ↦ counted test g (e ∷ es) true passes
    ]

-- each of a list stands there
all_there : (xs : List Free) → All (λ (x : Free). is_there x xs ≡ true) xs
all_there [] = All-nil (λ (x : Free). is_there x [] ≡ true)
all_there (x ∷ xs) =
    All-cons (λ (y : Free). is_there y (x ∷ xs) ≡ true) x xs
    (ap (λ (b : Bool). b || is_there x xs) (same-itself x))
    (All-weaker (λ (y : Free). is_there y xs ≡ true) (λ (y : Free). is_there y (x ∷ xs) ≡ true)
    (λ y there. ap (λ (b : Bool). is_same y x || b) there ∙ or_last (is_same y x)) xs (all_there xs))
  where
    or_last : (b : Bool) → (b || true) ≡ true
    or_last true = refl
    or_last false = refl

-- ---- one split more

-- a split that both lists have, and that is taken out of one, makes one more difference,
differs_without : (ones es : List Free) (g : Free) → Rises ones → Rises es → is_there g ones ≡ true
    → is_there g es ≡ true → differing ones (without_free g es) ≡ differing ones es + 1
differs_without ones es g ra re here there =
    let first = same_count (λ x. not (is_there x (without_free g es)))
    (λ x. not (not (is_same x g) && is_there x es)) ones
    (λ k d lt. ap not (there-without (get_or ones k d) g es re)) in
    let more = lost_more g (λ x. is_there x es) ones ra there in
    let one : one_if (is_there g ones) ≡ 1 = ap one_if here in
    let second = counted_without g (λ x. not (is_there x ones)) es (ap not here) in
    omega (arith, first, more, one, second)

-- and so does one that a list lacks, and that is put into the other
differs_with : (ones es : List Free) (g : Free) → is_there g ones ≡ false
    → differing ones (with_free g es) ≡ differing ones es + 1
differs_with ones es g here =
    let first = same_count (λ x. not (is_there x (with_free g es))) (λ x. not (is_there x es)) ones
    (All-weaker (λ (x : Free). is_there x ones ≡ true)
    (λ (x : Free). not (is_there x (with_free g es)) ≡ not (is_there x es))
    (λ x there. ap not (there-with x g es ∙ ap (λ (b : Bool). b || is_there x es) (other x there))) ones
    (all_there ones)) in
    let second = counted_with g (λ x. not (is_there x ones)) es (ap not here) in
    omega (arith, first, second)
  where
    other : (x : Free) → is_there x ones ≡ true → is_same x g ≡ false
    other x there = by_test (is_same x g) refl
      where
        by_test : (t : Bool) → is_same x g ≡ t → t ≡ false
        by_test true same =
            absurd (let is = ap (λ (y : Free). is_there y ones) (same-is x g same) in let none = here in cc)
        by_test false same = refl

-- ---- many splits

behind_there : (f x : Free) (xs : List Free) → is_there f xs ≡ true → is_there f (x ∷ xs) ≡ true
behind_there f x xs is = ap (λ (b : Bool). is_same f x || b) is ∙ by_test (is_same f x)
  where
    by_test : (t : Bool) → (t || true) ≡ true
    by_test true = refl
    by_test false = refl

-- one of those behind the first of a rising list isn't the first
behind_other : (f g : Free) (gs : List Free) → PrecedesAll g gs → is_there f gs ≡ true → is_same f g ≡ false
behind_other f g gs before is = by_test (is_same f g) refl
  where
    by_test : (t : Bool) → is_same f g ≡ t → t ≡ false
    by_test true same =
        absurd (let one : is_there g gs ≡ true = ap (λ (x : Free). is_there x gs) (sym (same-is f g same)) ∙ is in
        let none = none-behind g gs before in cc)
    by_test false same = refl

-- so do all that both lists have and that are taken out of one,
pub differs_without_all : (ones es gs : List Free) → Rises ones → Rises es → Rises gs
    → ((f : Free) → is_there f gs ≡ true → is_there f ones ≡ true)
    → ((f : Free) → is_there f gs ≡ true → is_there f es ≡ true)
    → differing ones (without_all gs es) ≡ differing ones es + length gs
differs_without_all ones es [] ra re rg each other = omega arith
differs_without_all ones es (g ∷ gs) ra re rg each other =
    let one = differs_without ones es g ra re (each g (first-there g gs)) (other g (first-there g gs)) in
    let more = differs_without_all ones (without_free g es) gs ra (rises-without g es re) rg.1
    (λ f is. each f (behind_there f g gs is))
    (λ f is.
    there-without f g es re ∙ ap (λ (b : Bool). not b && is_there f es) (behind_other f g gs rg.0 is)
    ∙ other f (behind_there f g gs is)) in
    omega (arith, one, more)

-- and all that a list lacks, and that are put into the other
pub differs_with_all : (ones es cs : List Free) → ((f : Free) → is_there f cs ≡ true → is_there f ones ≡ false)
    → differing ones (with_all cs es) ≡ differing ones es + length cs
differs_with_all ones es [] each = omega arith
differs_with_all ones es (c ∷ cs) each =
    let one = differs_with ones es c (each c (first-there c cs)) in
    let more = differs_with_all ones (with_free c es) cs (λ f is. each f (behind_there f c cs is)) in
    omega (arith, one, more)

-- a list and itself have no difference
pub no_difference : (ones : List Free) → differing ones ones ≡ 0
no_difference ones =
    let none = none_counted ones ones (all_there ones) in
    omega (arith, none)
  where
    none_counted : (xs ys : List Free) → All (λ (x : Free). is_there x ys ≡ true) xs
        → count_by (λ x. not (is_there x ys)) xs ≡ 0
    none_counted [] ys all = refl
    none_counted (x ∷ xs) ys all =
        let There : Free → Type 0 = λ y. is_there y ys ≡ true in
        let one = counted (λ y. not (is_there y ys)) x xs false (ap not (All-head There x xs all)) in
        let rest = none_counted xs ys (All-tail There x xs all) in
        omega (arith, one, rest)
