-- A rooted tree listed depth first: an account with all that stands under it is the account, then its children, each
-- with all that stands under it.
use Rattle.std.proofs.Common.{◌≡◌, nat_eq, ℕ, zero, suc, ◌+◌, ◌≤◌, ◌==◌, Bool, true, false, List, [], ◌∷◌, ◌++◌, cond}
use Rattle.std.proofs.Common.{length, map, filter, reverse, Some, None, refl, sym, ap, subst, ◌∙◌, append_assoc, arith}
use Rattle.std.proofs.Common.{if◌then◌else◌, eq-eqb, Option}
use Rattle.std.specs.List.{flat_map}
use Rattle.std.specs.Option.{option_and_then, option_eq}
use Rattle.std.proofs.lemmas.Bool.{eqb-true}
use Rattle.std.proofs.lemmas.List.{reverse-append, reverse-reverse}
use Rattle.book_commodity.specs.Table.{Rises, value_of}
use Rattle.book_commodity.proofs.TableLemmas.{above_value}
use Rattle.book_accounts.specs.Order.{with_generations, with_all_under}
use Rattle.book_accounts.specs.Tree.{parent_of, IsWayUp, IsRooted, children_of}
use Rattle.book_accounts.specs.declared.account.Account.{Account}
use Rattle.book_accounts.proofs.TreeLaws.{option_eq-true}
use Rattle.book_accounts.proofs.TreeLemmas.{way_short, there_below}

-- P of each item
abbrev pub Each : (ℕ → Type 0) → List ℕ → Type 0
Each P [] = Unit {0}
Each P (x ∷ xs) = P x × Each P xs

flat_map_same : (f g : ℕ → List ℕ) (xs : List ℕ) → Each (λ x. f x ≡ g x) xs → flat_map f xs ≡ flat_map g xs
flat_map_same f g [] h = refl
flat_map_same f g (x ∷ xs) h =
    ap (λ (l : List ℕ). l ++ flat_map f xs) h.0 ∙ ap (λ (l : List ℕ). g x ++ l) (flat_map_same f g xs h.1)

pub flat_map-append : (f : ℕ → List ℕ) (xs ys : List ℕ) → flat_map f (xs ++ ys) ≡ flat_map f xs ++ flat_map f ys
flat_map-append f [] ys = refl
flat_map-append f (x ∷ xs) ys =
    ap (λ (l : List ℕ). f x ++ l) (flat_map-append f xs ys) ∙ sym (append_assoc (f x) (flat_map f xs) (flat_map f ys))

-- what holds of each account with this parent holds of all the children listed
pub all_children :
    (P : ℕ → Type 0) (parent : Option ℕ) (tree : List (ℕ × Account)) → Rises tree
    → ((c : ℕ) (a : Account) → value_of c tree ≡ Some a → a.parent ≡ parent → P c) → Each P (children_of tree parent)
all_children P parent [] r h = tt
all_children P parent (e ∷ es) r h =
    let rest : Each P (children_of es parent) =
    all_children P parent es r.1
    (λ c a value up.
    let Same : Bool → Type 0 = λ t. (c == e.0) ≡ t → P c in
    elim (c == e.0) as Same [
      | true ↦ λ same. absurd
          (let here : c ≡ e.0 = eqb-true c e.0 same in
          let gone : value_of c es ≡ None = subst (λ (k : ℕ). value_of k es ≡ None) (sym here)
          (above_value e.0 es r.0) in cc)
      | false ↦ λ other. h c a (ap (λ (t : Bool). if t then Some e.1 else value_of c es) other ∙ value) up
    ] refl) in
    let Kept : Bool → Type 0 = λ t. option_eq nat_eq e.1.parent parent ≡ t
    → Each P (map (λ entry. entry.0)
    (cond t (e ∷ filter (λ entry. option_eq nat_eq entry.1.parent parent) es)
    (filter (λ entry. option_eq nat_eq entry.1.parent parent) es))) in
    elim (option_eq nat_eq e.1.parent parent) as Kept [
      | true ↦ λ kept. (
        h e.0 e.1 (ap (λ (t : Bool). if t then Some e.1 else value_of e.0 es) (eq-eqb e.0 e.0 refl))
            (option_eq-true e.1.parent parent kept),
        rest,
      )
      | false ↦ λ other. rest
    ] refl

pub has_parent :
    (tree : List (ℕ × Account)) (c m : ℕ) (a : Account) → value_of c tree ≡ Some a → a.parent ≡ Some m
    → parent_of tree c ≡ Some m
has_parent tree c m a value up = ap (option_and_then (λ account. account.parent)) value ∙ up

-- one generation more adds nothing where an account's way up and the generations reach past the tree
same_generations :
    (most : ℕ) (tree : List (ℕ × Account)) (n : ℕ) (way : List ℕ) → Rises tree → IsWayUp tree n way
    → length tree ≤ most + length way
    → with_generations most tree n ≡ with_generations (suc most) tree n
unfolding with_generations
same_generations zero tree n way r w h = absurd (omega (arith, way_short tree n way r w))
same_generations (suc most) tree n way r w h =
    ap (λ (l : List ℕ). n ∷ l)
    (flat_map_same (with_generations most tree) (with_generations (suc most) tree) (children_of tree (Some n))
    (all_children (λ c. with_generations most tree c ≡ with_generations (suc most) tree c) (Some n) tree r
    (λ c a value up. same_generations most tree c (n ∷ way) r (has_parent tree c n a value up, w) (omega (arith, h)))))

pub some_below :
    (tree : List (ℕ × Account)) (c m : ℕ) (way : List ℕ) → IsWayUp tree c way → parent_of tree c ≡ Some m
    → (above : List ℕ) × IsWayUp tree m above
some_below tree c m [] w up = absurd (let top = w.1 in cc)
some_below tree c m (q ∷ above) w up =
    let first = w.0 in
    let same : q ≡ m = cc in (above, subst (λ (k : ℕ). IsWayUp tree k above) same w.1)

-- an account with all under it: itself, then each of its children with all under that
pub whole : (most : ℕ) (tree : List (ℕ × Account)) (n : ℕ) → Rises tree → IsRooted tree → length tree ≡ most
    → with_generations most tree n ≡ n ∷ flat_map (with_generations most tree) (children_of tree (Some n))
unfolding with_generations
whole zero [] n r rooted e = refl
whole zero (x ∷ xs) n r rooted e = absurd (omega (arith, e))
whole (suc most) tree n r rooted e =
    ap (λ (l : List ℕ). n ∷ l)
    (flat_map_same (with_generations most tree) (with_generations (suc most) tree) (children_of tree (Some n))
    (all_children (λ c. with_generations most tree c ≡ with_generations (suc most) tree c) (Some n) tree r
    (λ c a value at.
    let up = has_parent tree c n a value at in
    let way = rooted.up c (there_below tree c n up) in
    let above = some_below tree c n way.0 way.1 up in
    same_generations most tree c (n ∷ above.0) r (up, above.1) (omega (arith, e)))))

pub whole_is :
    (tree : List (ℕ × Account)) (n : ℕ) → Rises tree → IsRooted tree → with_all_under tree n ≡ n
    ∷ flat_map (with_all_under tree) (children_of tree (Some n))
whole_is tree n r rooted = whole (length tree) tree n r rooted refl

-- what is left to list, after the account on top of the pending ones was listed and its children put in its place
pub listed_on :
    (tree : List (ℕ × Account)) (n : ℕ) (before after children : List ℕ) → Rises tree → IsRooted tree
    → before ≡ after ++ n ∷ [] → children ≡ reverse (children_of tree (Some n))
    → flat_map (with_all_under tree) (reverse before) ≡ n ∷ flat_map (with_all_under tree) (reverse (after ++ children))
listed_on tree n before after children r rooted top under =
    let f : ℕ → List ℕ = with_all_under tree in
    let cs : List ℕ = children_of tree (Some n) in
    ap (λ (l : List ℕ). flat_map f (reverse l)) top
    ∙ ap (flat_map f) (reverse-append after (n ∷ []))
    ∙ ap (λ (l : List ℕ). l ++ flat_map f (reverse after)) (whole_is tree n r rooted)
    ∙ ap (λ (l : List ℕ). n ∷ l) (sym (flat_map-append f cs (reverse after)))
    ∙ ap (λ (l : List ℕ). n ∷ flat_map f (l ++ reverse after)) (sym (reverse-reverse cs) ∙ ap reverse (sym under))
    ∙ ap (λ (l : List ℕ). n ∷ flat_map f l) (sym (reverse-append after children))
