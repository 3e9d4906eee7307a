-- Lists that grow by one item for each item of another list.
use Rattle.std.proofs.Common.{◌≡◌, ℕ, ◌+◌, ◌<◌, List, [], ◌∷◌, ◌++◌, append_assoc, ap, get_or, length, map, sym, take, ◌∙◌, zero, suc, Some}
use Rattle.std.proofs.lemmas.List.{map-append, take_more}
use Rattle.std.proofs.lemmas.Option.{none-some, same_Some}
use Rattle.std.specs.Option.{option_map}
use Rattle.std.specs.List.{slice_get}

-- what was added for the items so far, and what is added for the next one
pub map_next :
    {X Y : Type 0} (f : X → Y) (xs : List X) (i : ℕ) (x : X) (y : Y) (old before after : List Y)
    → i < length xs → x ≡ get_or xs i x → y ≡ f x → before ≡ old ++ map f (take i xs) → after ≡ before ++ y ∷ []
    → after ≡ old ++ map f (take (i + 1) xs)
map_next {X} {Y} f xs i x y old before after lt is made held added =
    let next = take_more xs i x lt ∙ ap (λ (item : X). take i xs ++ item ∷ []) (sym is) in
    let last = ap (map f) next ∙ map-append f (take i xs) (x ∷ []) in
    added ∙ ap (λ (l : List Y). l ++ y ∷ []) held ∙ append_assoc old (map f (take i xs)) (y ∷ [])
    ∙ ap (λ (item : Y). old ++ (map f (take i xs) ++ item ∷ [])) made ∙ ap (λ (l : List Y). old ++ l) (sym last)

-- the number and the value at a place are the entry there
pub entry_at :
    {X : Type 0} (xs : List (ℕ × X)) (i : ℕ) (n : ℕ) (x : X) (d : ℕ × X)
    → option_map (λ (e : ℕ × X). e.0) (slice_get xs i) ≡ Some n
    → option_map (λ (e : ℕ × X). e.1) (slice_get xs i) ≡ Some x → (n, x) ≡ get_or xs i d
entry_at [] i n x d number value = absurd (none-some n number)
entry_at {X} (e ∷ xs) zero n x d number value =
    sym (ap (λ (m : ℕ). (m, e.1)) (same_Some e.0 n number) ∙ ap (λ (y : X). (n, y)) (same_Some e.1 x value))
entry_at (e ∷ xs) (suc i) n x d number value = entry_at xs i n x d number value

-- one more item stands behind those that were added
pub put :
    {Y : Type 0} (old added before after : List Y) (y made : Y) → before ≡ old ++ added → y ≡ made → after ≡ before ++ y ∷ []
    → after ≡ old ++ (added ++ made ∷ [])
put {Y} old added before after y made held is pushed =
    pushed ∙ ap (λ (item : Y). before ++ item ∷ []) is ∙ ap (λ (l : List Y). l ++ made ∷ []) held
    ∙ append_assoc old added (made ∷ [])
