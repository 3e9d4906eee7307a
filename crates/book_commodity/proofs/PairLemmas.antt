-- Two lists that are compared place by place.
use Rattle.std.proofs.Common.{◌≡◌, ◌≤◌, ◌<◌, ℕ, ◌+◌, ◌&&◌, Bool, true, false, List, [], ◌∷◌, length, drop}
use Rattle.std.proofs.Common.{get_or, ap, ◌∙◌, arith}
use Rattle.std.proofs.lemmas.List.{drop_all}
use lib.Pointwise.{pointwise}
use Rattle.book_commodity.proofs.ListLemmas.{from-item}

-- those from a place on are compared by those at the place and those behind it
pub pairs-from :
    {X : Type 0} (same : X → X → Bool) (xs ys : List X) (i : ℕ) (x y : X)
    → i < length xs → i < length ys → x ≡ get_or xs i x → y ≡ get_or ys i y
    → pointwise same (drop i xs) (drop i ys) ≡ (same x y && pointwise same (drop (i + 1) xs) (drop (i + 1) ys))
pairs-from same xs ys i x y below under is there =
    ap (λ l. pointwise same l (drop i ys)) (from-item xs i x below is)
    ∙ ap (λ l. pointwise same (x ∷ drop (i + 1) xs) l) (from-item ys i y under there)

pub pairs-other :
    {X : Type 0} (same : X → X → Bool) (xs ys : List X) (i : ℕ) (x y : X)
    → i < length xs → length xs ≡ length ys → x ≡ get_or xs i x → y ≡ get_or ys i y → same x y ≡ false
    → pointwise same (drop i xs) (drop i ys) ≡ false
pairs-other same xs ys i x y below long is there other =
    pairs-from same xs ys i x y below (omega (arith, long)) is there
    ∙ ap (λ t. t && pointwise same (drop (i + 1) xs) (drop (i + 1) ys)) other

pub pairs-same :
    {X : Type 0} (same : X → X → Bool) (xs ys : List X) (i : ℕ) (x y : X)
    → i < length xs → length xs ≡ length ys → x ≡ get_or xs i x → y ≡ get_or ys i y → same x y ≡ true
    → pointwise same (drop i xs) (drop i ys) ≡ pointwise same (drop (i + 1) xs) (drop (i + 1) ys)
pairs-same same xs ys i x y below long is there equal =
    pairs-from same xs ys i x y below (omega (arith, long)) is there
    ∙ ap (λ t. t && pointwise same (drop (i + 1) xs) (drop (i + 1) ys)) equal

-- behind the last places nothing differs
pub pairs-end :
    {X : Type 0} (same : X → X → Bool) (xs ys : List X) (i : ℕ)
    → length xs ≤ i → length xs ≡ length ys → pointwise same (drop i xs) (drop i ys) ≡ true
pairs-end same xs ys i past long =
    ap (λ l. pointwise same l (drop i ys)) (drop_all i xs past)
    ∙ ap (λ l. pointwise same [] l) (drop_all i ys (omega (arith, long)))
