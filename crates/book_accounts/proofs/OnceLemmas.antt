-- Depth first, each account of a rooted tree is listed once.
use Rattle.std.proofs.Common.{◌≡◌, ℕ, zero, suc, ◌+◌, ◌≤◌, ◌==◌, nat_eq, ◌||◌, Bool, true, false, cond, if◌then◌else◌}
use Rattle.std.proofs.Common.{List, [], ◌∷◌, ◌++◌, length, map, filter, Option, Some, None, IsSome, is_some, refl, sym}
use Rattle.std.proofs.Common.{ap, subst, ◌∙◌, eq-eqb, arith}
use Rattle.std.specs.List.{count_by, flat_map, list_any}
use Rattle.std.specs.Option.{option_and_then, option_eq}
use Rattle.std.proofs.lemmas.Bool.{eqb-true}
use Rattle.std.proofs.lemmas.List.Recursion.{is_count_by}
use Rattle.book_commodity.specs.Table.{Rises, value_of}
use Rattle.book_commodity.proofs.TableLemmas.{above_value}
use Rattle.book_accounts.specs.Order.{depth_first, with_all_under, with_generations}
use Rattle.book_accounts.specs.Tree.{parent_of, IsWayUp, IsRooted, children_of}
use Rattle.book_accounts.specs.declared.account.Account.{Account}
use Rattle.book_accounts.proofs.OrderLemmas.{Each, all_children, has_parent}
use Rattle.book_accounts.proofs.TreeLaws.{option_eq-same}
use Rattle.book_accounts.proofs.TreeLemmas.{way_from, way_same, way_short}

-- how many of the numbers pass
abbrev hits : (ℕ → Bool) → List ℕ → ℕ
hits t [] = 0
hits t (x ∷ xs) = cond (t x) (1 + hits t xs) (hits t xs)

hits-append : (t : ℕ → Bool) (xs ys : List ℕ) → hits t (xs ++ ys) ≡ hits t xs + hits t ys
hits-append t [] ys = omega arith
hits-append t (x ∷ xs) ys =
    let more = hits-append t xs ys in
    let P : Bool → Type 0 = λ b. cond b (1 + hits t (xs ++ ys)) (hits t (xs ++ ys)) ≡ cond b (1 + hits t xs)
    (hits t xs) + hits t ys in
    elim (t x) as P [ true ↦ omega (arith, more) | false ↦ more ]

-- a number stands once in the lists of those that pass, and in no other list
hits-flat :
    (n : ℕ) (f : ℕ → List ℕ) (t : ℕ → Bool) (cs : List ℕ) → Each (λ c. hits (nat_eq n) (f c) ≡ cond (t c) 1 0) cs
    → hits (nat_eq n) (flat_map f cs) ≡ hits t cs
hits-flat n f t [] h = refl
hits-flat n f t (c ∷ cs) h =
    let rest = hits-flat n f t cs h.1 in
    let both = hits-append (nat_eq n) (f c) (flat_map f cs) in
    let P : Bool → Type 0 = λ b. cond b 1 0 + hits t cs ≡ cond b (1 + hits t cs) (hits t cs) in
    both ∙ ap (λ (k : ℕ). k + hits (nat_eq n) (flat_map f cs)) h.0 ∙ ap (λ (k : ℕ). cond (t c) 1 0 + k) rest
    ∙ elim (t c) as P [ true ↦ refl | false ↦ omega arith ]

hits-same : (s t : ℕ → Bool) (cs : List ℕ) → Each (λ c. s c ≡ t c) cs → hits s cs ≡ hits t cs
hits-same s t [] h = refl
hits-same s t (c ∷ cs) h =
    ap (λ (b : Bool). cond b (1 + hits s cs) (hits s cs)) h.0 ∙ ap (λ (k : ℕ). cond (t c) (1 + k) k)
    (hits-same s t cs h.1)

hits-none : (t : ℕ → Bool) (cs : List ℕ) → Each (λ c. t c ≡ false) cs → hits t cs ≡ 0
hits-none t [] h = refl
hits-none t (c ∷ cs) h = ap (λ (b : Bool). cond b (1 + hits t cs) (hits t cs)) h.0 ∙ hits-none t cs h.1

abbrev passes : Option Account → Option ℕ → Bool
passes None parent = false
passes (Some a) parent = option_eq nat_eq a.parent parent

-- a number is listed once among the children of its parent, and not among other children
hits-child :
    (x : ℕ) (parent : Option ℕ) (tree : List (ℕ × Account)) → Rises tree
    → hits (nat_eq x) (children_of tree parent) ≡ cond (passes (value_of x tree) parent) 1 0
hits-child x parent [] r = refl
hits-child x parent (e ∷ es) r =
    let rest = hits-child x parent es r.1 in
    let k : ℕ = hits (nat_eq x) (children_of es parent) in
    let Same : Bool → Type 0 = λ s. (x == e.0) ≡ s
    → hits (nat_eq x) (map (λ entry. entry.0)
    (cond (option_eq nat_eq e.1.parent parent) (e ∷ filter (λ entry. option_eq nat_eq entry.1.parent parent) es)
    (filter (λ entry. option_eq nat_eq entry.1.parent parent) es)))
    ≡ cond (passes (if s then Some e.1 else value_of x es) parent) 1 0 in
    elim (x == e.0) as Same [
      | true ↦ λ same.
          let here : x ≡ e.0 = eqb-true x e.0 same in
          let gone : value_of x es ≡ None = subst (λ (n : ℕ). value_of n es ≡ None) (sym here)
          (above_value e.0 es r.0) in
          let none : k ≡ 0 = rest ∙ ap (λ (o : Option Account). cond (passes o parent) 1 0) gone in
          let All : Bool → Type 0 =
          λ t. hits (nat_eq x) (map (λ entry. entry.0)
          (cond t (e ∷ filter (λ entry. option_eq nat_eq entry.1.parent parent) es)
          (filter (λ entry. option_eq nat_eq entry.1.parent parent) es))) ≡ cond t 1 0 in
          elim (option_eq nat_eq e.1.parent parent) as All [
            | true ↦ ap (λ (b : Bool). cond b (1 + k) k) same ∙ ap (λ (i : ℕ). 1 + i) none
            | false ↦ none
          ]
      | false ↦ λ other.
          let All : Bool → Type 0 =
          λ t. hits (nat_eq x) (map (λ entry. entry.0)
          (cond t (e ∷ filter (λ entry. option_eq nat_eq entry.1.parent parent) es)
          (filter (λ entry. option_eq nat_eq entry.1.parent parent) es))) ≡ cond (passes (value_of x es) parent) 1 0 in
          elim (option_eq nat_eq e.1.parent parent) as All [
            | true ↦ ap (λ (b : Bool). cond b (1 + k) k) other ∙ rest
            | false ↦ rest
          ]
    ] refl

-- whether an account is another one or stands above it, whose way is given
abbrev on_way : ℕ → List ℕ → ℕ → Bool
on_way n way c = list_any (λ k. k == c) (n ∷ way)

way_at :
    (tree : List (ℕ × Account)) (n c : ℕ) (way : List ℕ) → IsWayUp tree n way → on_way n way c ≡ true
    → (rest : List ℕ) × IsWayUp tree c rest × (length rest ≤ length way)
way_at tree n c way w h =
    let P : Bool → Type 0 = λ t. (n == c) ≡ t → t || list_any (λ k. k == c) way ≡ true → (rest : List ℕ)
    × IsWayUp tree c rest × (length rest ≤ length way) in
    elim (n == c) as P [
      | true ↦ λ e hit. (way, subst (λ (k : ℕ). IsWayUp tree k way) (eqb-true n c e) w, omega arith)
      | false ↦ λ e hit. let r = way_from tree n c way w hit in (r.0, r.1, omega (arith, r.2))
    ] refl h

-- no child of an account is on its way
child_apart :
    (tree : List (ℕ × Account)) (m c : ℕ) (way : List ℕ) → IsWayUp tree m way → parent_of tree c ≡ Some m
    → on_way m way c ≡ false
child_apart tree m c way w up =
    let P : Bool → Type 0 = λ t. on_way m way c ≡ t → on_way m way c ≡ false in
    elim (on_way m way c) as P [
      | true ↦ λ hit. let r = way_at tree m c way w hit in
          absurd (omega (arith, r.2, ap length (way_same tree c r.0 (m ∷ way) r.1 (up, w))))
      | false ↦ λ e. e
    ] refl

-- where a child of an account is on a way, the account stands above
child_above :
    (tree : List (ℕ × Account)) (n c m : ℕ) (way : List ℕ) → IsWayUp tree n way → parent_of tree c ≡ Some m
    → on_way n way c ≡ true → list_any (λ k. k == m) way ≡ true
child_above tree n c m [] w up hit =
    let P : Bool → Type 0 = λ t. (n == c) ≡ t → t || false ≡ true → false ≡ true in
    elim (n == c) as P [
      | true ↦ λ e h. absurd (let top = ap (parent_of tree) (sym (eqb-true n c e)) ∙ w.1 in cc)
      | false ↦ λ e h. h
    ] refl hit
child_above tree n c m (p ∷ above) w up hit =
    let P : Bool → Type 0 = λ t. (n == c) ≡ t → t || on_way p above c ≡ true → on_way p above m ≡ true in
    elim (n == c) as P [
      | true ↦ λ e h.
          let same : Some p ≡ Some m = sym w.0 ∙ ap (parent_of tree) (eqb-true n c e) ∙ up in
          let is : p ≡ m = cc in
          ap (λ (t : Bool). t || list_any (λ k. k == m) above) (eq-eqb p m is)
      | false ↦ λ e h.
          let rest = child_above tree p c m above w.1 up h in
          let Q : Bool → Type 0 = λ t. t || list_any (λ k. k == m) above ≡ true in
          elim (p == m) as Q [ true ↦ refl | false ↦ rest ]
    ] refl hit

-- an account above another has one child on the way to it
child_on_way :
    (tree : List (ℕ × Account)) (n m : ℕ) (way : List ℕ) → IsWayUp tree n way → list_any (λ k. k == m) way ≡ true
    → (one : ℕ) × (parent_of tree one ≡ Some m) × ((c : ℕ) → parent_of tree c ≡ Some m → on_way n way c ≡ (one == c))
child_on_way tree n m [] w hit = absurd cc
child_on_way tree n m (p ∷ above) w hit =
    let R : Type 0 = (one : ℕ) × (parent_of tree one ≡ Some m)
    × ((c : ℕ) → parent_of tree c ≡ Some m → on_way n (p ∷ above) c ≡ (one == c)) in
    let P : Bool → Type 0 = λ t. (p == m) ≡ t → t || list_any (λ k. k == m) above ≡ true → R in
    elim (p == m) as P [
      | true ↦ λ e h.
          let is : p ≡ m = eqb-true p m e in (
            n,
            w.0 ∙ ap (λ (k : ℕ). Some k) is,
            λ c up.
                let apart = child_apart tree p c above w.1 (up ∙ ap (λ (k : ℕ). Some k) (sym is)) in
                let Q : Bool → Type 0 = λ t. t || false ≡ t in
                ap (λ (t : Bool). (n == c) || t) apart ∙ elim (n == c) as Q [ true ↦ refl | false ↦ refl ],
          )
      | false ↦ λ e h.
          let r = child_on_way tree p m above w.1 h in (
            r.0,
            r.1,
            λ c up.
                let Q : Bool → Type 0 = λ t. (n == c) ≡ t → t || on_way p above c ≡ (r.0 == c) in
                elim (n == c) as Q [
                  | true ↦ λ here. absurd
                      (let same : Some p ≡ Some m = sym w.0 ∙ ap (parent_of tree) (eqb-true n c here) ∙ up in
                      let is : p ≡ m = cc in
                      let test : (p == m) ≡ true = eq-eqb p m is in cc)
                  | false ↦ λ other. r.2 c up
                ] refl,
          )
    ] refl hit

-- an account has one account at the top on its way
top_on_way :
    (tree : List (ℕ × Account)) (n : ℕ) (way : List ℕ) → IsWayUp tree n way
    → (one : ℕ) × (IsSome (value_of one tree)) × (parent_of tree one ≡ None)
    × ((c : ℕ) → parent_of tree c ≡ None → on_way n way c ≡ (one == c))
top_on_way tree n [] w = (
  n,
  w.0,
  w.1,
  λ c top. let Q : Bool → Type 0 = λ t. t || false ≡ t in
      elim (n == c) as Q [ true ↦ refl | false ↦ refl ],
)
top_on_way tree n (p ∷ above) w =
    let r = top_on_way tree p above w.1 in (
      r.0,
      r.1,
      r.2,
      λ c top.
          let Q : Bool → Type 0 = λ t. (n == c) ≡ t → t || on_way p above c ≡ (r.0 == c) in
          elim (n == c) as Q [
            | true ↦ λ here. absurd (let up = sym w.0 ∙ ap (parent_of tree) (eqb-true n c here) ∙ top in cc)
            | false ↦ λ other. r.3 c top
          ] refl,
    )

passes_up :
    (o : Option Account) (m : ℕ) → option_and_then (λ account. account.parent) o ≡ Some m → passes o (Some m) ≡ true
passes_up None m e = absurd cc
passes_up (Some a) m e = ap (λ (p : Option ℕ). option_eq nat_eq p (Some m)) e ∙ option_eq-same (Some m)

passes_top :
    (o : Option Account) → IsSome o → option_and_then (λ account. account.parent) o ≡ None → passes o None ≡ true
passes_top None s e = absurd cc
passes_top (Some a) s e = ap (λ (p : Option ℕ). option_eq nat_eq p None) e

-- an account stands once among those under one that is on its way, and not among those under another
listed_under :
    (most : ℕ) (tree : List (ℕ × Account)) (n m : ℕ) (way above : List ℕ) → Rises tree → IsWayUp tree n way
    → IsWayUp tree m above
    → length tree ≤ most + length above → hits (nat_eq n) (with_generations most tree m) ≡ cond (on_way n way m) 1 0
unfolding with_generations
listed_under zero tree n m way above r w v h = absurd (omega (arith, way_short tree m above r v))
listed_under (suc most) tree n m way above r w v h =
    let cs : List ℕ = children_of tree (Some m) in
    let f : ℕ → List ℕ = with_generations most tree in
    let sum : hits (nat_eq n) (flat_map f cs) ≡ hits (on_way n way) cs =
    hits-flat n f (on_way n way) cs
    (all_children (λ c. hits (nat_eq n) (f c) ≡ cond (on_way n way c) 1 0) (Some m) tree r
    (λ c a value up. listed_under most tree n c way (m ∷ above) r w (has_parent tree c m a value up, v)
    (omega (arith, h)))) in
    let Here : Bool → Type 0 = λ t. (n == m) ≡ t → cond t (1 + hits (nat_eq n) (flat_map f cs))
    (hits (nat_eq n) (flat_map f cs)) ≡ cond (t || list_any (λ k. k == m) way) 1 0 in
    let Above : Bool → Type 0 = λ t. list_any (λ k. k == m) way ≡ t → hits (nat_eq n) (flat_map f cs) ≡ cond t 1 0 in
    elim (n == m) as Here [
      | true ↦ λ e.
          let own : IsWayUp tree m way = subst (λ (k : ℕ). IsWayUp tree k way) (eqb-true n m e) w in
          let none : hits (on_way n way) cs ≡ 0 =
          hits-none (on_way n way) cs
          (all_children (λ c. on_way n way c ≡ false) (Some m) tree r
          (λ c a value up. ap (λ (k : ℕ). on_way k way c) (eqb-true n m e)
          ∙ child_apart tree m c way own (has_parent tree c m a value up))) in
          ap (λ (k : ℕ). 1 + k) (sum ∙ none)
      | false ↦ λ e. elim (list_any (λ k. k == m) way) as Above [
        | true ↦ λ hit.
            let one = child_on_way tree n m way w hit in
            sum
            ∙ hits-same (on_way n way) (nat_eq one.0) cs
            (all_children (λ c. on_way n way c ≡ nat_eq one.0 c) (Some m) tree r
            (λ c a value up. one.2 c (has_parent tree c m a value up)))
            ∙ hits-child one.0 (Some m) tree r
            ∙ ap (λ (t : Bool). cond t 1 0) (passes_up (value_of one.0 tree) m one.1)
        | false ↦ λ miss.
            sum
            ∙ hits-none (on_way n way) cs
            (all_children (λ c. on_way n way c ≡ false) (Some m) tree r
            (λ c a value up.
            let Q : Bool → Type 0 = λ t. on_way n way c ≡ t → on_way n way c ≡ false in
            elim (on_way n way c) as Q [
              | true ↦ λ hit. absurd (let above_it =
                  child_above tree n c m way w (has_parent tree c m a value up) hit in cc)
              | false ↦ λ no. no
            ] refl))
      ] refl
    ] refl

gone_differs :
    (tree : List (ℕ × Account)) (n m : ℕ) (a : Account) → value_of n tree ≡ None → value_of m tree ≡ Some a
    → (n == m) ≡ false
gone_differs tree n m a gone there =
    let Q : Bool → Type 0 = λ t. (n == m) ≡ t → (n == m) ≡ false in
    elim (n == m) as Q [
      | true ↦ λ e. absurd (let here = ap (λ (k : ℕ). value_of k tree) (sym (eqb-true n m e)) ∙ gone in cc)
      | false ↦ λ e. e
    ] refl

-- what isn't there is not listed
not_listed :
    (most : ℕ) (tree : List (ℕ × Account)) (n m : ℕ) (a : Account) → Rises tree → value_of n tree ≡ None
    → value_of m tree ≡ Some a → hits (nat_eq n) (with_generations most tree m) ≡ 0
unfolding with_generations
not_listed zero tree n m a r gone there = ap (λ (b : Bool). cond b 1 0) (gone_differs tree n m a gone there)
not_listed (suc most) tree n m a r gone there =
    let f : ℕ → List ℕ = with_generations most tree in
    let cs : List ℕ = children_of tree (Some m) in
    ap (λ (b : Bool). cond b (1 + hits (nat_eq n) (flat_map f cs)) (hits (nat_eq n) (flat_map f cs)))
    (gone_differs tree n m a gone there)
    ∙ hits-flat n f (λ c. false) cs
    (all_children (λ c. hits (nat_eq n) (f c) ≡ 0) (Some m) tree r
    (λ c b value up. not_listed most tree n c b r gone value))
    ∙ hits-none (λ c. false) cs (all_children (λ c. false ≡ false) (Some m) tree r (λ c b value up. refl))

hits_once :
    (tree : List (ℕ × Account)) (n : ℕ) → Rises tree → IsRooted tree
    → hits (nat_eq n) (depth_first tree) ≡ (if is_some (value_of n tree) then 1 else 0)
hits_once tree n r rooted =
    let f : ℕ → List ℕ = with_all_under tree in
    let tops : List ℕ = children_of tree None in
    let P : Option Account → Type 0 = λ o. value_of n tree ≡ o
    → hits (nat_eq n) (flat_map f tops) ≡ (if is_some o then 1 else 0) in
    elim (value_of n tree) as P [
      | Some a ↦ λ e.
          let way = rooted.up n (subst (λ (o : Option Account). IsSome o) (sym e) refl) in
          let one = top_on_way tree n way.0 way.1 in
          hits-flat n f (on_way n way.0) tops
          (all_children (λ c. hits (nat_eq n) (f c) ≡ cond (on_way n way.0 c) 1 0) None tree r
          (λ c b value top. listed_under (length tree) tree n c way.0 [] r way.1 (
            subst (λ (o : Option Account). IsSome o) (sym value) refl,
            ap (option_and_then (λ account. account.parent))
                value ∙ top,
          ) (omega arith)))
          ∙ hits-same (on_way n way.0) (nat_eq one.0) tops
          (all_children (λ c. on_way n way.0 c ≡ nat_eq one.0 c) None tree r
          (λ c b value top. one.3 c (ap (option_and_then (λ account. account.parent)) value ∙ top)))
          ∙ hits-child one.0 None tree r
          ∙ ap (λ (t : Bool). cond t 1 0) (passes_top (value_of one.0 tree) one.1 one.2)
      | None ↦ λ e.
          hits-flat n f (λ c. false) tops
          (all_children (λ c. hits (nat_eq n) (f c) ≡ 0) None tree r
          (λ c b value top. not_listed (length tree) tree n c b r e value))
          ∙ hits-none (λ c. false) tops (all_children (λ c. false ≡ false) None tree r (λ c b value top. refl))
    ] refl

-- each account is listed once, and nothing else is
pub listed_once :
    (tree : List (ℕ × Account)) → Rises tree → IsRooted tree → (n : ℕ)
    → count_by (nat_eq n) (depth_first tree) ≡ (if is_some (value_of n tree) then 1 else 0)
listed_once tree r rooted n =
    sym (is_count_by (hits (nat_eq n)) (nat_eq n) refl (λ x xs. refl) (depth_first tree)) ∙ hits_once tree n r rooted
