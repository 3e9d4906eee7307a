-- Names joined one after another.
use Rattle.std.proofs.Common.{◌≡◌, ℕ, ◌+◌, ◌<◌, List, [], ◌∷◌, ◌++◌, length, map, take, get_or, refl, sym, ap, ◌∙◌}
use Rattle.std.proofs.Common.{append_assoc, arith}
use Rattle.std.specs.List.{join_with_byte}
use Rattle.std.proofs.lemmas.List.{length-map, length-take, take_more, map_push}

-- one piece joined to some that were joined before
pub join-push :
    (c : ℕ) (pieces : List (List ℕ)) (piece : List ℕ) → 0 < length pieces
    → join_with_byte c (pieces ++ piece ∷ []) ≡ join_with_byte c pieces ++ (c ∷ piece)
join-push c [] piece h = absurd (omega arith)
join-push c (p ∷ []) piece h = refl
join-push c (p ∷ q ∷ pieces) piece h = grind (arith, append_assoc, join-push c (q ∷ pieces) piece (omega arith))

-- the first piece, and one more after others, each taken from a list at a place
pub join_first :
    (c : ℕ) (f : ℕ → List ℕ) (xs : List ℕ) (i : ℕ) (before after : List ℕ) → i < length xs → i ≡ 0
    → before ≡ join_with_byte c (map f (take i xs)) → after ≡ before ++ f (get_or xs i 0)
    → after ≡ join_with_byte c (map f (take (i + 1) xs))
join_first c f xs i before after below first so_far step =
    let none : take i xs ≡ [] = ap (λ (k : ℕ). take k xs) first in
    let one : take (i + 1) xs ≡ get_or xs i 0 ∷ [] = take_more xs i 0 below
    ∙ ap (λ (l : List ℕ). l ++ get_or xs i 0 ∷ []) none in
    step ∙ ap (λ (l : List ℕ). l ++ f (get_or xs i 0)) (so_far ∙ ap (λ (l : List ℕ). join_with_byte c (map f l)) none)
    ∙ sym (ap (λ (l : List ℕ). join_with_byte c (map f l)) one)

pub join_next :
    (c : ℕ) (f : ℕ → List ℕ) (xs : List ℕ) (i : ℕ) (before after : List ℕ) → i < length xs → 0 < i
    → before ≡ join_with_byte c (map f (take i xs)) → after ≡ (before ++ c ∷ []) ++ f (get_or xs i 0)
    → after ≡ join_with_byte c (map f (take (i + 1) xs))
join_next c f xs i before after below some so_far step =
    let one : take (i + 1) xs ≡ take i xs ++ get_or xs i 0 ∷ [] = take_more xs i 0 below in
    let long : 0 < length (map f (take i xs)) = omega (arith, length-map (take i xs) f, length-take i xs) in
    step
    ∙ append_assoc before (c ∷ []) (f (get_or xs i 0))
    ∙ ap (λ (l : List ℕ). l ++ (c ∷ f (get_or xs i 0))) so_far
    ∙ sym (join-push c (map f (take i xs)) (f (get_or xs i 0)) long)
    ∙ ap (join_with_byte c) (sym (map_push f (take i xs) (get_or xs i 0)))
    ∙ ap (λ (l : List ℕ). join_with_byte c (map f l)) (sym one)
