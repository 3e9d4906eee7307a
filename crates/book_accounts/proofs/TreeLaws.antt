-- A tree stays rooted where an account is added under another, or moved to where it doesn't stand under itself, or
-- taken out with nothing under it.
use Rattle.std.proofs.Common.{◌≡◌, nat_eq, ℕ, ◌==◌, ◌||◌, Bool, true, false, if◌then◌else◌, List, [], ◌∷◌, Option, Some}
use Rattle.std.proofs.Common.{None, IsSome, IsNone, refl, sym, ap, subst, ◌∙◌, eq-eqb, arith}
use Rattle.std.specs.List.{list_any}
use Rattle.std.specs.Option.{option_and_then, option_eq}
use Rattle.std.proofs.lemmas.Bool.{eqb-true}
use Rattle.book_commodity.specs.Table.{Rises, value_of, with_entry, without_entry}
use Rattle.book_commodity.proofs.TableLemmas as tables
use Rattle.book_accounts.specs.Rules.{is_within}
use Rattle.book_accounts.specs.Tree.{parent_of, IsWayUp, IsRooted, children_of}
use Rattle.book_accounts.specs.declared.account.Account.{Account}
use Rattle.book_accounts.proofs.TreeLemmas.{way_from, way_kept, there_on_way, other_with, other_without, ancestors_are}

-- an account that isn't there is on no way
way_without :
    (tree : List (ℕ × Account)) (n m : ℕ) (way : List ℕ) → (IsSome (value_of m tree) → ⊥) → IsWayUp tree n way
    → list_any (λ k. k == m) (n ∷ way) ≡ false
way_without tree n m way gone w =
    let Here : Bool → Type 0 = λ t. (n == m) ≡ t → (n == m) || list_any (λ k. k == m) way ≡ false in
    let Above : Bool → Type 0 = λ t. list_any (λ k. k == m) way ≡ t → list_any (λ k. k == m) way ≡ false in
    let above : list_any (λ k. k == m) way ≡ false =
    elim (list_any (λ k. k == m) way) as Above [
      | true ↦ λ e. let r = way_from tree n m way w e in absurd (gone (there_on_way tree m r.0 r.1))
      | false ↦ λ e. e
    ] refl in
    elim (n == m) as Here [
      | true ↦ λ e. absurd (gone
          (subst (λ (k : ℕ). IsSome (value_of k tree)) (eqb-true n m e) (there_on_way tree n way w)))
      | false ↦ λ e. ap (λ (t : Bool). t || list_any (λ k. k == m) way) e ∙ above
    ] refl

-- each way of the old tree has one in the new tree, where one account has a parent whose way it isn't on
new_way :
    (tree new : List (ℕ × Account)) (m p : ℕ) (above : List ℕ)
    → ((k : ℕ) → (k == m) ≡ false → value_of k new ≡ value_of k tree)
    → parent_of new m ≡ Some p → IsWayUp new p above
    → (n : ℕ) (way : List ℕ) → IsWayUp tree n way → (found : List ℕ) × IsWayUp new n found
new_way tree new m p above same up from n [] w =
    let P : Bool → Type 0 = λ t. (n == m) ≡ t → (found : List ℕ) × IsWayUp new n found in
    elim (n == m) as P [
      | true ↦ λ e. (p ∷ above, (ap (parent_of new) (eqb-true n m e) ∙ up, from))
      | false ↦ λ e. (
        [],
        (
          subst (λ (o : Option Account). IsSome o) (sym (same n e)) w.0,
          ap
              (option_and_then (λ account. account.parent)) (same n e) ∙ w.1,
        ),
      )
    ] refl
new_way tree new m p above same up from n (q ∷ way) w =
    let P : Bool → Type 0 = λ t. (n == m) ≡ t → (found : List ℕ) × IsWayUp new n found in
    elim (n == m) as P [
      | true ↦ λ e. (p ∷ above, (ap (parent_of new) (eqb-true n m e) ∙ up, from))
      | false ↦ λ e. let r = new_way tree new m p above same up from q way w.1 in
          (q ∷ r.0, (ap (option_and_then (λ account. account.parent)) (same n e) ∙ w.0, r.1))
    ] refl

pub rooted_with :
    (tree : List (ℕ × Account)) (m : ℕ) (account : Account) (p : ℕ) (above : List ℕ) → IsRooted tree
    → account.parent ≡ Some p
    → IsWayUp tree p above → list_any (λ k. k == m) (p ∷ above) ≡ false → IsRooted (with_entry m account tree)
rooted_with tree m account p above rooted under w apart =
    let new : List (ℕ × Account) = with_entry m account tree in
    let same : (k : ℕ) → (k == m) ≡ false → value_of k new ≡ value_of k tree = other_with tree m account in
    let here : value_of m new ≡ Some account =
    tables.value_of_with m m account tree ∙ ap (λ (t : Bool). if t then Some account else value_of m tree)
    (eq-eqb m m refl) in
    let up : parent_of new m ≡ Some p = ap (option_and_then (λ account. account.parent)) here ∙ under in
    let from : IsWayUp new p above = way_kept tree new m same p above apart w in
    record {
      up = λ n there.
          let P : Bool → Type 0 = λ t. (n == m) ≡ t → (found : List ℕ) × IsWayUp new n found in
          elim (n == m) as P [
            | true ↦ λ e. (p ∷ above, (ap (parent_of new) (eqb-true n m e) ∙ up, from))
            | false ↦ λ e. let r = rooted.up n (subst (λ (o : Option Account). IsSome o) (same n e) there) in
                new_way tree new m p above same up from n r.0 r.1
          ] refl;
    }

none_some : (o : Option Account) → IsNone o → IsSome o → ⊥
none_some None n s = cc
none_some (Some account) n s = cc

-- an account added under one that is there
pub rooted_added :
    (tree : List (ℕ × Account)) (m : ℕ) (account : Account) (p : ℕ) → IsRooted tree → account.parent ≡ Some p
    → IsSome (value_of p tree) → IsNone (value_of m tree) → IsRooted (with_entry m account tree)
rooted_added tree m account p rooted under there new =
    let way = rooted.up p there in
    rooted_with tree m account p way.0 rooted under way.1
    (way_without tree p m way.0 (none_some (value_of m tree) new) way.1)

-- an account moved under one that is neither itself nor stands under it
pub rooted_moved :
    (tree : List (ℕ × Account)) (m : ℕ) (account : Account) (p : ℕ) → Rises tree → IsRooted tree
    → account.parent ≡ Some p
    → IsSome (value_of p tree) → is_within tree m p ≡ false → IsRooted (with_entry m account tree)
rooted_moved tree m account p r rooted under there apart =
    let way = rooted.up p there in
    rooted_with tree m account p way.0 rooted under way.1
    (subst (λ (above : List ℕ). list_any (λ k. k == m) (p ∷ above) ≡ false) (ancestors_are tree p way.0 r way.1) apart)

pub option_eq-same : (a : Option ℕ) → option_eq nat_eq a a ≡ true
option_eq-same None = refl
option_eq-same (Some n) = eq-eqb n n refl

pub option_eq-true : (a b : Option ℕ) → option_eq nat_eq a b ≡ true → a ≡ b
option_eq-true None None e = refl
option_eq-true None (Some n) e = absurd cc
option_eq-true (Some m) None e = absurd cc
option_eq-true (Some m) (Some n) e = ap (λ (k : ℕ). Some k) (eqb-true m n e)

-- without children listed, no account has this parent
pub no_child : (tree : List (ℕ × Account)) (m n : ℕ) → children_of tree (Some m) ≡ [] → parent_of tree n ≡ Some m → ⊥
no_child [] m n none up = cc
no_child (e ∷ es) m n none up =
    let Kept : Bool → Type 0 = λ t. option_eq nat_eq e.1.parent (Some m) ≡ t → ⊥ in
    let Same : Bool → Type 0 = λ t. (n == e.0) ≡ t → option_eq nat_eq e.1.parent (Some m) ≡ false → ⊥ in
    elim (option_eq nat_eq e.1.parent (Some m)) as Kept [
      | true ↦ λ kept. let listed : e.0 ∷ children_of es (Some m) ≡ [] = grind arith in cc
      | false ↦ λ kept. elim (n == e.0) as Same [
        | true ↦ λ same kept. let here : e.1.parent ≡ Some m = grind arith in
            let test : option_eq nat_eq e.1.parent (Some m) ≡ true =
            subst (λ (o : Option ℕ). option_eq nat_eq o (Some m) ≡ true) (sym here) (option_eq-same (Some m)) in cc
        | false ↦ λ same kept. no_child es m n (grind arith) (grind arith)
      ] refl kept
    ] refl

way_left :
    (tree : List (ℕ × Account)) (m n : ℕ) (way : List ℕ) → children_of tree (Some m) ≡ [] → (n == m) ≡ false
    → IsWayUp tree n way → list_any (λ k. k == m) (n ∷ way) ≡ false
way_left tree m n [] none other w = ap (λ (t : Bool). t || false) other
way_left tree m n (q ∷ way) none other w =
    let P : Bool → Type 0 = λ t. (q == m) ≡ t → list_any (λ k. k == m) (q ∷ way) ≡ false in
    ap (λ (t : Bool). t || list_any (λ k. k == m) (q ∷ way)) other
    ∙ elim (q == m) as P [
      | true ↦ λ e. absurd (no_child tree m n none (w.0 ∙ ap (λ (k : ℕ). Some k) (eqb-true q m e)))
      | false ↦ λ e. way_left tree m q way none e w.1
    ] refl

-- an account taken out that has no children
pub rooted_without :
    (tree : List (ℕ × Account)) (m : ℕ) → Rises tree → children_of tree (Some m) ≡ [] → IsRooted tree
    → IsRooted (without_entry m tree)
rooted_without tree m r none rooted = record {
  up = λ n there.
      let new : List (ℕ × Account) = without_entry m tree in
      let P : Bool → Type 0 = λ t. (n == m) ≡ t → (found : List ℕ) × IsWayUp new n found in
      elim (n == m) as P [
        | true ↦ λ e. absurd
            (let gone : value_of n new ≡ None = tables.value_of_without n m tree r
            ∙ ap (λ (t : Bool). if t then None else value_of n tree) e in
            let some : IsSome {T = Account} None = subst (λ (o : Option Account). IsSome o) gone there in cc)
        | false ↦ λ e.
            let way = rooted.up n (subst (λ (o : Option Account). IsSome o) (other_without tree m r n e) there) in
            (way.0, way_kept tree new m (other_without tree m r) n way.0 (way_left tree m n way.0 none e way.1) way.1)
      ] refl;
}
