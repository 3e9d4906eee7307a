-- Lists of which an item passes a test.
use Rattle.std.proofs.Common.{◌≡◌, ℕ, zero, suc, ◌+◌, Bool, true, false, ◌||◌, List, [], ◌∷◌, take, Some, slice_get}
use Rattle.std.proofs.Common.{add-one, refl, sym, ap, ◌∙◌}
use Rattle.std.specs.List.{list_any}

pub or_false : (a : Bool) → (a || false) ≡ a
or_false true = refl
or_false false = refl

pub or_swap : (a b : Bool) → (a || b) ≡ (b || a)
or_swap true true = refl
or_swap true false = refl
or_swap false true = refl
or_swap false false = refl

crossed : (a b c d : Bool) → ((a || b) || (c || d)) ≡ ((a || c) || (b || d))
crossed true b true d = refl
crossed true b false d = refl
crossed false true true d = refl
crossed false true false d = refl
crossed false false true d = refl
crossed false false false d = refl

-- one item more is asked
pub any_next :
    {X : Type 0} (test : X → Bool) (xs : List X) (i : ℕ) (x : X) → slice_get xs i ≡ Some x
    → list_any test (take (i + 1) xs) ≡ (list_any test (take i xs) || test x)
any_next {X} test xs i x e = ap (λ n. list_any test (take n xs)) (add-one i) ∙ go xs i e
  where
    swapped : (a b c : Bool) → (a || (b || c)) ≡ ((a || b) || c)
    swapped true b c = refl
    swapped false b c = refl

    go : (xs : List X) (i : ℕ) → slice_get xs i ≡ Some x
        → list_any test (take (suc i) xs) ≡ (list_any test (take i xs) || test x)
    go [] i e = absurd cc
    go (y ∷ xs) zero e = let same : y ≡ x = cc in or_false (test y) ∙ ap test same
    go (y ∷ xs) (suc i) e =
        ap (λ t. test y || t) (go xs i e) ∙ swapped (test y) (list_any test (take i xs)) (test x)

-- tests that are the same for each item
pub any_same : {X : Type 0} (f g : X → Bool) (xs : List X) → ((x : X) → f x ≡ g x) → list_any f xs ≡ list_any g xs
any_same f g [] same = refl
any_same f g (x ∷ xs) same =
    ap (λ t. t || list_any f xs) (same x) ∙ ap (λ t. g x || t) (any_same f g xs same)

-- an item passes one of two tests
pub any_either :
    {X : Type 0} (f g : X → Bool) (xs : List X)
    → list_any (λ x. f x || g x) xs ≡ (list_any f xs || list_any g xs)
any_either f g [] = refl
any_either f g (x ∷ xs) =
    ap (λ t. (f x || g x) || t) (any_either f g xs) ∙ crossed (f x) (g x) (list_any f xs) (list_any g xs)

pub none_of : {X : Type 0} (xs : List X) → list_any (λ x. false) xs ≡ false
none_of [] = refl
none_of (x ∷ xs) = none_of xs

-- a pair of two lists passes a test, whichever list is gone through first
pub any_swap :
    {X Y : Type 0} (f : X → Y → Bool) (xs : List X) (ys : List Y)
    → list_any (λ x. list_any (λ y. f x y) ys) xs ≡ list_any (λ y. list_any (λ x. f x y) xs) ys
any_swap f [] ys = sym (none_of ys)
any_swap f (x ∷ xs) ys =
    ap (λ t. list_any (λ y. f x y) ys || t) (any_swap f xs ys)
    ∙ sym (any_either (λ y. f x y) (λ y. list_any (λ z. f z y) xs) ys)
