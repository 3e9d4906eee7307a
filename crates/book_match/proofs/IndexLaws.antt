-- Which splits stand in an index: what one put in or taken out leaves, and that rising splits are known by it.
use Rattle.std.proofs.Common.{◌≡◌, ℕ, ◌==◌, ℤ, Bool, true, false, not, ◌&&◌, ◌||◌, if◌then◌else◌, List, [], ◌∷◌}
use Rattle.std.proofs.Common.{refl, sym, ap, ◌∙◌, subst, arith}
use Rattle.std.proofs.lemmas.Bool.{and_parts}
use Rattle.std.proofs.lemmas.Bool.Decides.{nat_tests, Decides-int_eq}
use Rattle.std.proofs.lemmas.Int.{ints}
use Rattle.std.specs.Ordering.{int_eq}
use Rattle.book_match.specs.AmountIndex.{AreAbsent, AreThere, PrecedesAll, Rises, is_same, is_there, ordered}
use Rattle.book_match.specs.AmountIndex.{precedes, with_free, without_free}
use Rattle.book_match.specs.declared.free.Free.{Free}
use Rattle.book_match.proofs.IndexLemmas.{after-neither, all-behind, none-behind}
use Rattle.book_match.proofs.IndexLemmas.{precedes-trans}

-- ---- what stands in an index
or-swap : (a b c : Bool) → (b || (a || c)) ≡ (a || (b || c))
or-swap true true c = refl
or-swap true false c = refl
or-swap false true c = refl
or-swap false false c = refl

pub there-with : (x free : Free) (es : List Free) → is_there x (with_free free es) ≡ (is_same x free || is_there x es)
there-with x free [] = refl
there-with x free (e ∷ es) = by_test (precedes e free) (there-with x free es)
  where
    by_test : (t : Bool) → is_there x (with_free free es) ≡ (is_same x free || is_there x es)
        → is_there x (if t then e ∷ with_free free es else free ∷ e ∷ es)
        ≡ (is_same x free || (is_same x e || is_there x es))
    by_test true more =
        ap (λ (b : Bool). is_same x e || b) more ∙ or-swap (is_same x free) (is_same x e) (is_there x es)
    by_test false more = refl

pub there-ordered : (x : Free) (es : List Free) → is_there x (ordered es) ≡ is_there x es
there-ordered x [] = refl
there-ordered x (e ∷ es) =
    there-with x e (ordered es) ∙ ap (λ (b : Bool). is_same x e || b) (there-ordered x es)

-- ---- two splits that are the same in everything are one
same_number : (a b : ℕ) → (a == b) ≡ true → a ≡ b
same_number a b e = grind (arith, nat_tests)

same_int : (a b : ℤ) → int_eq a b ≡ true → a ≡ b
same_int a b e = grind (arith, ints, Decides-int_eq)

made : ℕ → ℤ → ℤ → ℕ → Free
made account amount day split = record { account = account; amount = amount; day = day; split = split }

pub same-is : (a b : Free) → is_same a b ≡ true → a ≡ b
unfolding made
same-is a b e =
    let first = and_parts _ _ e in
    let second = and_parts _ _ first.1 in
    let third = and_parts _ _ second.1 in
    ap (λ (n : ℕ). made n a.amount a.day a.split) (same_number a.account b.account first.0)
    ∙ ap (λ (z : ℤ). made b.account z a.day a.split) (same_int a.amount b.amount second.0)
    ∙ ap (λ (z : ℤ). made b.account b.amount z a.split) (same_int a.day b.day third.0)
    ∙ ap (made b.account b.amount b.day) (same_number a.split b.split third.1)

pub same-itself : (a : Free) → is_same a a ≡ true
same-itself a = grind (arith, ints, nat_tests, Decides-int_eq)

-- ---- the order
pub before-itself : (a : Free) → precedes a a ≡ false
before-itself a = grind (arith, ints, nat_tests)

pub one-before : (a b : Free) → precedes a b ≡ true → precedes b a ≡ false
one-before a b e = by_test (precedes b a) refl
  where
    by_test : (t : Bool) → precedes b a ≡ t → precedes b a ≡ false
    by_test true f = absurd (let both = precedes-trans a b a e f in let none = before-itself a in cc)
    by_test false f = f

-- ---- what stands there once one is taken out
pub there-without : (x free : Free) (es : List Free) → Rises es
    → is_there x (without_free free es) ≡ (not (is_same x free) && is_there x es)
there-without x free [] up = by_test (is_same x free)
  where
    by_test : (t : Bool) → false ≡ (not t && false)
    by_test true = refl
    by_test false = refl
there-without x free (e ∷ es) up =
    by_tests (is_same free e) (is_same x free) refl refl (there-without x free es up.1)
  where
    by_tests : (s t : Bool) → is_same free e ≡ s → is_same x free ≡ t
        → is_there x (without_free free es) ≡ (not t && is_there x es)
        → is_there x (if s then es else e ∷ without_free free es) ≡ (not t && (is_same x e || is_there x es))
    by_tests true true s t more =
        none-behind x es (subst (λ (f : Free). PrecedesAll f es) (sym (same-is x free t ∙ same-is free e s)) up.0)
    by_tests true false s t more =
        ap (λ (b : Bool). b || is_there x es)
        (sym (ap (is_same x) (sym (same-is free e s)) ∙ t))
    by_tests false true s t more =
        ap (λ (b : Bool). b || is_there x (without_free free es))
        (ap (λ (f : Free). is_same f e) (same-is x free t) ∙ s) ∙ more
    by_tests false false s t more = ap (λ (b : Bool). is_same x e || b) more

-- ---- rising splits are known by which stand there
pub first-there : (x : Free) (xs : List Free) → is_there x (x ∷ xs) ≡ true
first-there x xs = ap (λ (b : Bool). b || is_there x xs) (same-itself x)

behind-there : (f x : Free) (xs : List Free) → is_there f xs ≡ true → is_there f (x ∷ xs) ≡ true
behind-there f x xs is = ap (λ (b : Bool). is_same f x || b) is ∙ by_test (is_same f x)
  where
    by_test : (t : Bool) → (t || true) ≡ true
    by_test true = refl
    by_test false = refl

pub are-there : (fs es : List Free) → ((f : Free) → is_there f fs ≡ true → is_there f es ≡ true) → AreThere fs es
are-there [] es each = tt
are-there (x ∷ xs) es each =
    (each x (first-there x xs), are-there xs es (λ f is. each f (behind-there f x xs is)))

pub are-absent : (fs es : List Free) → ((f : Free) → is_there f fs ≡ true → is_there f es ≡ false) → AreAbsent fs es
are-absent [] es each = tt
are-absent (x ∷ xs) es each =
    (each x (first-there x xs), are-absent xs es (λ f is. each f (behind-there f x xs is)))

behind-not : (x y : Free) (ys : List Free) → Rises (y ∷ ys) → precedes x y ≡ true → is_there x (y ∷ ys) ≡ false
behind-not x y ys up less = none-behind x (y ∷ ys) (less, all-behind x y ys less up.0)

-- the first of both is the same
same-first : (x y : Free) (xs ys : List Free) → Rises (x ∷ xs) → Rises (y ∷ ys)
    → is_there x (y ∷ ys) ≡ true → is_there y (x ∷ xs) ≡ true → x ≡ y
same-first x y xs ys up_x up_y there_x there_y =
    by_tests (precedes x y) (precedes y x) (is_same x y) refl refl refl
  where
    by_tests : (s t u : Bool) → precedes x y ≡ s → precedes y x ≡ t → is_same x y ≡ u → x ≡ y
    by_tests true t u s e f = absurd (let none = behind-not x y ys up_y s in cc)
    by_tests false true u s e f = absurd (let none = behind-not y x xs up_x e in cc)
    by_tests false false true s e f = same-is x y f
    by_tests false false false s e f = absurd (let less = after-neither x y e f in cc)

-- and then so are those behind it
same-behind : (x : Free) (xs ys : List Free) → PrecedesAll x xs → PrecedesAll x ys
    → ((f : Free) → is_there f (x ∷ xs) ≡ is_there f (x ∷ ys)) → (f : Free) → is_there f xs ≡ is_there f ys
same-behind x xs ys all_x all_y same f = by_test (is_same f x) refl (same f)
  where
    by_test : (t : Bool) → is_same f x ≡ t → (is_same f x || is_there f xs) ≡ (is_same f x || is_there f ys)
        → is_there f xs ≡ is_there f ys
    by_test true t e =
        let is = sym (same-is f x t) in
        none-behind f xs (subst (λ (g : Free). PrecedesAll g xs) is all_x)
        ∙ sym (none-behind f ys (subst (λ (g : Free). PrecedesAll g ys) is all_y))
    by_test false t e =
        ap (λ (b : Bool). b || is_there f xs) (sym t) ∙ e ∙ ap (λ (b : Bool). b || is_there f ys) t

pub same-rises : (xs ys : List Free) → Rises xs → Rises ys → ((f : Free) → is_there f xs ≡ is_there f ys) → xs ≡ ys
same-rises [] [] up_x up_y same = refl
same-rises [] (y ∷ ys) up_x up_y same =
    absurd (let one = same y in let two = first-there y ys in cc)
same-rises (x ∷ xs) [] up_x up_y same =
    absurd (let one = same x in let two = first-there x xs in cc)
same-rises (x ∷ xs) (y ∷ ys) up_x up_y same =
    let is : x ≡ y = same-first x y xs ys up_x up_y (sym (same x) ∙ first-there x xs) (same y ∙ first-there y ys) in
    let all_y : PrecedesAll x ys = subst (λ (f : Free). PrecedesAll f ys) (sym is) up_y.0 in
    let rest : xs ≡ ys =
    same-rises xs ys up_x.1 up_y.1
    (same-behind x xs ys up_x.0 all_y
    (λ f. same f ∙ ap (λ (g : Free). is_there f (g ∷ ys)) (sym is))) in
    ap (λ (l : List Free). x ∷ l) rest ∙ ap (λ (g : Free). g ∷ ys) is
