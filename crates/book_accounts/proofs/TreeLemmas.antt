-- Rooted trees: an account has one way up, which is shorter than the tree; what adding, moving and taking an account
-- leave of the ways.
use Rattle.std.proofs.Common.{◌≡◌, ℕ, zero, suc, ◌+◌, ◌<◌, ◌≤◌, ◌==◌, Bool, true, false, if◌then◌else◌, List, []}
use Rattle.std.proofs.Common.{◌∷◌, length, Option, Some, None, IsSome, refl, sym, ap, subst, ◌∙◌, arith}
use Rattle.std.specs.List.{list_any}
use Rattle.std.specs.Option.{option_and_then}
use Rattle.std.proofs.lemmas.Bool.{or_parts}
use Rattle.std.proofs.lemmas.Bool.Decides.{nat_tests}
use Rattle.book_commodity.specs.Table.{Rises, value_of, with_entry, without_entry}
use Rattle.book_commodity.proofs.TableLemmas as tables
use Rattle.book_accounts.specs.Tree.{parent_of, IsWayUp, IsRooted, nearest_parents, followed_up, ancestors}
use Rattle.book_accounts.specs.declared.account.Account.{Account}

pub rises_with :
    (number : ℕ) (account : Account) (tree : List (ℕ × Account)) → Rises tree → Rises (with_entry number account tree)
rises_with number account tree r = tables.rises_with number account tree r

pub rises_without : (number : ℕ) (tree : List (ℕ × Account)) → Rises tree → Rises (without_entry number tree)
rises_without number tree r = tables.rises_without number tree r

-- an account has one way up
pub way_same : (tree : List (ℕ × Account)) (n : ℕ) (v w : List ℕ) → IsWayUp tree n v → IsWayUp tree n w → v ≡ w
way_same tree n [] [] f g = refl
way_same tree n [] (q ∷ w) f g = absurd cc
way_same tree n (p ∷ v) [] f g = absurd cc
way_same tree n (p ∷ v) (q ∷ w) f g =
    let same : p ≡ q = cc in
    let there : IsWayUp tree p w = subst (λ (k : ℕ). IsWayUp tree k w) (sym same) g.1 in
    let rest = way_same tree p v w f.1 there in cc

-- from an account on a way goes a shorter way
pub way_from :
    (tree : List (ℕ × Account)) (n m : ℕ) (way : List ℕ) → IsWayUp tree n way → list_any (λ k. k == m) way ≡ true
    → (rest : List ℕ) × IsWayUp tree m rest × (length rest < length way)
way_from tree n m [] w h = absurd cc
way_from tree n m (p ∷ above) w h =
    let P : Bool → Type 0 = λ t. (p == m) ≡ t → (rest : List ℕ) × IsWayUp tree m rest
    × (length rest < length (p ∷ above)) in
    elim (p == m) as P [
      | true ↦ λ e. (above, subst (λ (k : ℕ). IsWayUp tree k above) (grind (arith, nat_tests)) w.1, omega arith)
      | false ↦ λ e. let r = way_from tree p m above w.1 (grind (arith, nat_tests)) in (r.0, r.1, omega (arith, r.2))
    ] refl

-- no account stands under itself
pub way_apart :
    (tree : List (ℕ × Account)) (n : ℕ) (way : List ℕ) → IsWayUp tree n way → list_any (λ k. k == n) way ≡ false
way_apart tree n way w =
    let P : Bool → Type 0 = λ t. list_any (λ k. k == n) way ≡ t → list_any (λ k. k == n) way ≡ false in
    elim (list_any (λ k. k == n) way) as P [
      | true ↦ λ e. let r = way_from tree n n way w e in
          absurd (omega (arith, r.2, ap length (way_same tree n r.0 way r.1 w)))
      | false ↦ λ e. e
    ] refl

-- where two trees agree on each account but one, a way that leaves that one out is a way in both
pub way_kept :
    (tree new : List (ℕ × Account)) (m : ℕ) → ((k : ℕ) → (k == m) ≡ false → value_of k new ≡ value_of k tree)
    → (n : ℕ) (way : List ℕ) → list_any (λ k. k == m) (n ∷ way) ≡ false → IsWayUp tree n way → IsWayUp new n way
way_kept tree new m same n [] h w =
    let apart = or_parts (n == m) false h in (
      subst (λ (o : Option Account). IsSome o) (sym (same n apart.0)) w.0,
      ap
          (option_and_then (λ account. account.parent)) (same n apart.0) ∙ w.1,
    )
way_kept tree new m same n (p ∷ above) h w =
    let apart = or_parts (n == m) (list_any (λ k. k == m) (p ∷ above)) h in (
      ap (option_and_then (λ account. account.parent)) (same n apart.0)
          ∙ w.0,
      way_kept tree new m same p above apart.1 w.1,
    )

pub some_from : (o : Option Account) (p : ℕ) → option_and_then (λ account. account.parent) o ≡ Some p → IsSome o
some_from None p e = absurd cc
some_from (Some account) p e = refl

-- an account with a parent, or with a way up, is there
pub there_below : (tree : List (ℕ × Account)) (n p : ℕ) → parent_of tree n ≡ Some p → IsSome (value_of n tree)
there_below tree n p e = some_from (value_of n tree) p e

pub there_on_way : (tree : List (ℕ × Account)) (n : ℕ) (way : List ℕ) → IsWayUp tree n way → IsSome (value_of n tree)
there_on_way tree n [] w = w.0
there_on_way tree n (p ∷ above) w = there_below tree n p w.0

-- what a tree without one account says of the others
pub other_without :
    (tree : List (ℕ × Account)) (m : ℕ) → Rises tree → (k : ℕ) → (k == m) ≡ false
    → value_of k (without_entry m tree) ≡ value_of k tree
other_without tree m r k e =
    let o : Option Account = value_of k tree in
    tables.value_of_without k m tree r ∙ ap (λ (t : Bool). if t then None else o) e

pub other_with :
    (tree : List (ℕ × Account)) (m : ℕ) (account : Account) (k : ℕ) → (k == m) ≡ false
    → value_of k (with_entry m account tree) ≡ value_of k tree
other_with tree m account k e =
    let o : Option Account = value_of k tree in
    tables.value_of_with k m account tree ∙ ap (λ (t : Bool). if t then Some account else o) e

some_length : (tree : List (ℕ × Account)) (n : ℕ) → IsSome (value_of n tree) → 0 < length tree
some_length [] n h = absurd cc
some_length (e ∷ es) n h = omega arith

-- a way up has fewer accounts than the tree
pub way_short :
    (tree : List (ℕ × Account)) (n : ℕ) (way : List ℕ) → Rises tree → IsWayUp tree n way → length way < length tree
way_short tree n [] r w = some_length tree n w.0
way_short tree n (p ∷ above) r w =
    let kept : IsWayUp (without_entry n tree) p above =
    way_kept tree (without_entry n tree) n (other_without tree n r) p above (way_apart tree n (p ∷ above) w) w.1 in
    let less = way_short (without_entry n tree) p above (rises_without n tree r) kept in
    let one : length tree ≡ length (without_entry n tree) + 1 =
    tables.length_without n tree ∙ ap (λ (t : Bool). length (without_entry n tree) + (if t then 1 else 0))
    (there_below tree n p w.0) in
    omega (arith, less, one)

pub nearest_are :
    (most : ℕ) (tree : List (ℕ × Account)) (n : ℕ) (way : List ℕ) → IsWayUp tree n way → length way ≤ most
    → nearest_parents most tree n ≡ way
unfolding nearest_parents
nearest_are zero tree n [] w h = refl
nearest_are zero tree n (p ∷ above) w h = absurd (omega arith)
nearest_are (suc most) tree n [] w h = ap (λ (o : Option ℕ). followed_up o (nearest_parents most tree)) w.1
nearest_are (suc most) tree n (p ∷ above) w h =
    ap (λ (o : Option ℕ). followed_up o (nearest_parents most tree)) w.0
    ∙ ap (λ (l : List ℕ). p ∷ l) (nearest_are most tree p above w.1 (omega (arith, h)))

-- the accounts that an account stands under are those on its way up
pub ancestors_are :
    (tree : List (ℕ × Account)) (n : ℕ) (way : List ℕ) → Rises tree → IsWayUp tree n way → ancestors tree n ≡ way
ancestors_are tree n way r w = nearest_are (length tree) tree n way w (omega (arith, way_short tree n way r w))

nearest_top :
    (most : ℕ) (tree : List (ℕ × Account)) (n : ℕ) → parent_of tree n ≡ None → nearest_parents most tree n ≡ []
unfolding nearest_parents
nearest_top zero tree n e = refl
nearest_top (suc most) tree n e = ap (λ (o : Option ℕ). followed_up o (nearest_parents most tree)) e

-- an account without a parent stands under nothing
pub ancestors_top : (tree : List (ℕ × Account)) (n : ℕ) → parent_of tree n ≡ None → ancestors tree n ≡ []
ancestors_top tree n e = nearest_top (length tree) tree n e

up_by :
    (tree : List (ℕ × Account)) (n p : ℕ) (way : List ℕ) → Rises tree → parent_of tree n ≡ Some p → IsWayUp tree n way
    → ancestors tree n ≡ p ∷ ancestors tree p
up_by tree n p [] r e w = absurd (let top = w.1 in cc)
up_by tree n p (q ∷ above) r e w =
    let first = w.0 in
    let same : q ≡ p = cc in
    let from : IsWayUp tree p above = subst (λ (k : ℕ). IsWayUp tree k above) same w.1 in
    ancestors_are tree n (q ∷ above) r w ∙ ap (λ (k : ℕ). k ∷ above) same
    ∙ ap (λ (l : List ℕ). p ∷ l) (sym (ancestors_are tree p above r from))

-- an account with a parent stands under it, and under all that it stands under
pub ancestors_up :
    (tree : List (ℕ × Account)) (n p : ℕ) → Rises tree → IsRooted tree → parent_of tree n ≡ Some p
    → ancestors tree n ≡ p ∷ ancestors tree p
ancestors_up tree n p r rooted e = let way = rooted.up n (there_below tree n p e) in up_by tree n p way.0 r e way.1

-- the accounts that an account stands under are its way up
pub way_of :
    (tree : List (ℕ × Account)) (n : ℕ) → Rises tree → IsRooted tree → IsSome (value_of n tree)
    → IsWayUp tree n (ancestors tree n)
way_of tree n r rooted there =
    let way = rooted.up n there in
    subst (λ (above : List ℕ). IsWayUp tree n above) (sym (ancestors_are tree n way.0 r way.1)) way.1
