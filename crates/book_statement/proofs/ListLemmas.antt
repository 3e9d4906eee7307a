-- Laws of what items give with those before them, and of neighbours that belong together.
use Rattle.std.proofs.Common.{◌≡◌, ◌+◌, Bool, true, false, cond, List, [], ◌∷◌, ◌++◌, refl, sym, ap, ◌∙◌, append_assoc}
use Rattle.std.proofs.lemmas.List.{append-nil}
use Rattle.book_statement.specs.Lists.{each_after, in_front, grouped, on_last}

-- what items give that stand behind others
pub each_after-append : {X Y : Type 0} (gives : List X → X → List Y) (before xs ys : List X)
    → each_after gives before (xs ++ ys) ≡ each_after gives before xs ++ each_after gives (before ++ xs) ys
each_after-append gives before [] ys = ap (λ b. each_after gives b ys) (sym (append-nil before))
each_after-append gives before (x ∷ xs) ys =
    ap (λ l. gives before x ++ l)
    (each_after-append gives (before ++ x ∷ []) xs ys
    ∙ ap (λ b. each_after gives (before ++ x ∷ []) xs ++ each_after gives b ys) (append_assoc before (x ∷ []) xs))
    ∙ sym (append_assoc (gives before x) (each_after gives (before ++ x ∷ []) xs)
    (each_after gives (before ++ x ∷ xs) ys))

-- one item more
pub each_after-push : {X Y : Type 0} (gives : List X → X → List Y) (xs : List X) (x : X)
    → each_after gives [] (xs ++ x ∷ []) ≡ each_after gives [] xs ++ gives xs x
each_after-push gives xs x =
    each_after-append gives [] xs (x ∷ []) ∙ ap (λ l. each_after gives [] xs ++ l) (append-nil (gives xs x))

-- `grow` puts an item behind a group, as `onto` puts one in front
pub record Grows {X Y : Type 0} (alone : X → Y) (onto : X → Y → Y) (grow : Y → X → Y) : Type 0 where
  pub first : (x y : X) → grow (alone x) y ≡ onto x (alone y)
  pub more : (x y : X) (group : Y) → grow (onto x group) y ≡ onto x (grow group y)

-- there is a first group
pub grouped-some : {X Y : Type 0} (joins : X → X → Bool) (alone : X → Y) (onto : X → Y → Y) (x : X) (xs : List X)
    → (first : Y) × (more : List Y) × (grouped joins alone onto (x ∷ xs) ≡ first ∷ more)
grouped-some joins alone onto x [] = (alone x, [], refl)
grouped-some {X} {Y} joins alone onto x (y ∷ ys) = cons_in_front (joins x y) (grouped joins alone onto (y ∷ ys))
  where
    cons_in_front : (t : Bool) (groups : List Y) → (first : Y) × (more : List Y)
        × (in_front onto alone t x groups ≡ first ∷ more)
    cons_in_front t [] = (alone x, [], refl)
    cons_in_front true (g ∷ gs) = (onto x g, gs, refl)
    cons_in_front false (g ∷ gs) = (alone x, g ∷ gs, refl)

module _ {X Y : Type 0} (alone : X → Y) (onto : X → Y → Y) (grow : Y → X → Y) (grows : Grows alone onto grow) where
  -- an item put in front doesn't touch the last group, but where that is the first one too
  in_front-grow : (t : Bool) (x y : X) (g : Y) (gs : List Y)
      → in_front onto alone t x (on_last (λ group. grow group y) (g ∷ gs)) ≡ on_last (λ group. grow group y)
      (in_front onto alone t x (g ∷ gs))
  in_front-grow true x y g [] = ap (λ group. group ∷ []) (sym (grows.more x y g))
  in_front-grow true x y g (h ∷ gs) = refl
  in_front-grow false x y g [] = refl
  in_front-grow false x y g (h ∷ gs) = refl

  in_front-push : (t : Bool) (x : X) (g new : Y) (gs : List Y)
      → in_front onto alone t x ((g ∷ gs) ++ new ∷ []) ≡ in_front onto alone t x (g ∷ gs) ++ new ∷ []
  in_front-push true x g new gs = refl
  in_front-push false x g new gs = refl

  -- the groups with one item more, where it joins the last group, and where it doesn't
  abbrev pushed : Bool → X → List Y → List Y
  pushed t y groups = cond t (on_last (λ group. grow group y) groups) (groups ++ alone y ∷ [])

  in_front-pushed : (t u : Bool) (x y : X) (groups : List Y)
      → ((first : Y) × (more : List Y) × (groups ≡ first ∷ more))
      → in_front onto alone t x (pushed u y groups) ≡ pushed u y (in_front onto alone t x groups)
  in_front-pushed t true x y [] some = absurd cc
  in_front-pushed t false x y [] some = absurd cc
  in_front-pushed t true x y (g ∷ gs) some = in_front-grow t x y g gs
  in_front-pushed t false x y (g ∷ gs) some = in_front-push t x g (alone y) gs

  pub grouped-push : (joins : X → X → Bool) (xs : List X) (x y : X)
      → grouped joins alone onto (xs ++ x ∷ y ∷ []) ≡ pushed (joins x y) y (grouped joins alone onto (xs ++ x ∷ []))
  grouped-push joins [] x y =
      elim (joins x y) as (λ t. in_front onto alone t x (alone y ∷ []) ≡ pushed t y (alone x ∷ []))
      [ true ↦ ap (λ group. group ∷ []) (sym (grows.first x y)) | false ↦ refl ]
  grouped-push joins (z ∷ []) x y =
      ap (in_front onto alone (joins z x) z) (grouped-push joins [] x y)
      ∙ in_front-pushed (joins z x) (joins x y) z y (alone x ∷ []) (alone x, [], refl)
  grouped-push joins (z ∷ w ∷ ws) x y =
      ap (in_front onto alone (joins z w) z) (grouped-push joins (w ∷ ws) x y)
      ∙ in_front-pushed (joins z w) (joins x y) z y (grouped joins alone onto (w ∷ (ws ++ x ∷ [])))
      (grouped-some joins alone onto w (ws ++ x ∷ []))
