-- Lists that are gone through from place to place, and the first item that passes a test.
use Rattle.std.proofs.Common.{◌≡◌, ℕ, zero, suc, ◌+◌, ◌<◌, ◌≤◌, ◌||◌, Bool, true, false, cond, List, [], ◌∷◌, ◌++◌}
use Rattle.std.proofs.Common.{length, take, drop, get_or, Option, Some, None, option_map, find, slice_get, refl, sym}
use Rattle.std.proofs.Common.{ap, ◌∙◌, add-one, arith, ◌==◌, is_none, is_some, All}
use Rattle.std.proofs.lemmas.Bool.{ne_eqb, or_from}
use Rattle.std.proofs.lemmas.List.Elements.{All-nil, All-cons, All-head, All-tail}
use Rattle.std.proofs.Math.Seq.{drop-cons}
use Rattle.std.proofs.lemmas.List.{drop_all, take_more}
use Rattle.std.specs.List.{list_any}

drop_at_suc : {X : Type 0} (xs : List X) (i : ℕ) (x : X) → slice_get xs i ≡ Some x → drop i xs ≡ x ∷ drop (suc i) xs
drop_at_suc [] i x e = absurd cc
drop_at_suc (y ∷ xs) zero x e = let same : y ≡ x = cc in ap (λ z. z ∷ xs) same
drop_at_suc (y ∷ xs) (suc i) x e = drop_at_suc xs i x e

-- what is left of a list from a place on begins with the item at the place
pub drop_at : {X : Type 0} (xs : List X) (i : ℕ) (x : X) → slice_get xs i ≡ Some x → drop i xs ≡ x ∷ drop (i + 1) xs
drop_at xs i x e = drop_at_suc xs i x e ∙ ap (λ (k : ℕ). x ∷ drop k xs) (sym (add-one i))

pub mapped_some :
    {X Y : Type 0} (f : X → Y) (o : Option X) (y : Y) → option_map f o ≡ Some y → (x : X) × (o ≡ Some x) × (f x ≡ y)
mapped_some f None y e = absurd cc
mapped_some f (Some x) y e = (x, refl, cc)

pub mapped_none : {X Y : Type 0} (f : X → Y) (o : Option X) → option_map f o ≡ None → o ≡ None
mapped_none f None e = refl
mapped_none f (Some x) e = absurd cc

-- what isn't missing is there
pub some_there : {T : Type 0} (found : Option T) → is_none found ≡ false → is_some found ≡ true
some_there None e = absurd cc
some_there (Some x) e = refl

-- a number isn't among greater ones
pub not_greater : (n : ℕ) (ms : List ℕ) → All (λ (m : ℕ). n < m) ms → list_any (λ (m : ℕ). m == n) ms ≡ false
not_greater n [] above = refl
not_greater n (m ∷ more) above =
    let first = All-head (λ (k : ℕ). n < k) m more above in
    or_from (m == n) _ (ne_eqb m n (λ same. absurd (omega (arith, same, first))))
    (not_greater n more (All-tail (λ (k : ℕ). n < k) m more above))

-- what holds of all items of two lists in one holds of those of each
pub all_front : {X : Type 0} (P : X → Type 0) (xs ys : List X) → All P (xs ++ ys) → All P xs
all_front P [] ys h = All-nil P
all_front P (x ∷ xs) ys h = All-cons P x xs (All-head P x (xs ++ ys) h) (all_front P xs ys (All-tail P x (xs ++ ys) h))

pub all_back : {X : Type 0} (P : X → Type 0) (xs ys : List X) → All P (xs ++ ys) → All P ys
all_back P [] ys h = h
all_back P (x ∷ xs) ys h = all_back P xs ys (All-tail P x (xs ++ ys) h)

-- the item at a place, by its value
pub drop_by :
    {X Y : Type 0} (f : X → Y) (xs : List X) (i : ℕ) (y : Y) → option_map f (slice_get xs i) ≡ Some y → (x : X)
    × (drop i xs ≡ x ∷ drop (i + 1) xs) × (f x ≡ y)
drop_by f xs i y e = let r = mapped_some f (slice_get xs i) y e in (r.0, drop_at xs i r.0 r.1, r.2)

pub find_skips :
    {X : Type 0} (test : X → Bool) (xs : List X) (i : ℕ) → option_map test (slice_get xs i) ≡ Some false
    → find test (drop i xs) ≡ find test (drop (i + 1) xs)
find_skips test xs i e =
    let r = drop_by test xs i false e in
    ap (find test) r.1 ∙ ap (λ (t : Bool). cond t (Some r.0) (find test (drop (i + 1) xs))) r.2

pub find_here : {X : Type 0} (number : X → ℕ) (test : X → Bool) (xs : List X) (i n : ℕ)
    → option_map test (slice_get xs i) ≡ Some true → option_map number (slice_get xs i) ≡ Some n
    → option_map number (find test (drop i xs)) ≡ Some n
find_here number test xs i n e f =
    let r = mapped_some test (slice_get xs i) true e in
    ap (option_map number) (ap (find test) (drop_at xs i r.0 r.1)
    ∙ ap (λ (t : Bool). cond t (Some r.0) (find test (drop (i + 1) xs))) r.2)
    ∙ ap (option_map number) (sym r.1) ∙ f

-- ---- at the item that a loop reads
-- the items from a place on are the one there and those behind it
pub from-item :
    {X : Type 0} (xs : List X) (i : ℕ) (x : X) → i < length xs → x ≡ get_or xs i x → drop i xs ≡ x ∷ drop (i + 1) xs
from-item xs i x below is =
    drop-cons xs i x below ∙ ap (λ y. y ∷ drop (suc i) xs) (sym is)
    ∙ (let next : suc i ≡ i + 1 = omega arith in ap (λ n. x ∷ drop n xs) next)

-- the items before a place with the one there are those before the next place
pub take-item :
    {X : Type 0} (xs : List X) (i : ℕ) (x : X) → i < length xs → x ≡ get_or xs i x → take i xs ++ x
    ∷ [] ≡ take (i + 1) xs
take-item xs i x below is = ap (λ y. take i xs ++ y ∷ []) is ∙ sym (take_more xs i x below)

-- an item at a place passes a test: so one of those from there on does
pub any-here :
    {X : Type 0} (p : X → Bool) (xs : List X) (i : ℕ) (x : X) → i < length xs → x ≡ get_or xs i x → p x ≡ true
    → list_any p (drop i xs) ≡ true
any-here p xs i x below is passes =
    ap (list_any p) (from-item xs i x below is) ∙ ap (λ t. t || list_any p (drop (i + 1) xs)) passes

-- it doesn't: what holds from there on is what holds behind it
pub any-later :
    {X : Type 0} (p : X → Bool) (xs : List X) (i : ℕ) (x : X) → i < length xs → x ≡ get_or xs i x → p x ≡ false
    → list_any p (drop i xs) ≡ list_any p (drop (i + 1) xs)
any-later p xs i x below is fails =
    ap (list_any p) (from-item xs i x below is) ∙ ap (λ t. t || list_any p (drop (i + 1) xs)) fails

-- behind the last item none passes
pub any-end : {X : Type 0} (p : X → Bool) (xs : List X) (i : ℕ) → length xs ≤ i → list_any p (drop i xs) ≡ false
any-end p xs i past = ap (list_any p) (drop_all i xs past)
