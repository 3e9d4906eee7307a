-- How a tree's accounts are looked through place by place, and the accounts above an account one by one.
use Rattle.std.proofs.Common.{◌≡◌, nat_eq, ℕ, ◌+◌, ◌<◌, ◌==◌, ◌||◌, Bool, true, false, cond, List, ◌∷◌, length, drop}
use Rattle.std.proofs.Common.{map, filter, Option, Some, None, option_map, slice_get, sym, ap, ◌∙◌, arith}
use Rattle.std.specs.Option.{option_eq}
use Rattle.std.specs.List.{list_any}
use Rattle.book_commodity.specs.Table.{Rises}
use Rattle.book_commodity.proofs.ListLemmas.{drop_at, drop_by, mapped_some}
use Rattle.book_accounts.specs.Rules.{is_within}
use Rattle.book_accounts.specs.Tree.{parent_of, IsRooted, ancestors, children_of}
use Rattle.book_accounts.specs.declared.account.Account.{Account}
use Rattle.book_accounts.proofs.TreeLemmas.{ancestors_top, ancestors_up}

-- a number that isn't another one's parent is passed over
pub children_skip : (tree : List (ℕ × Account)) (i : ℕ) (parent : Option ℕ) (account : Account)
    → option_map (λ entry. entry.1) (slice_get tree i) ≡ Some account → option_eq nat_eq account.parent parent ≡ false
    → children_of (drop i tree) parent ≡ children_of (drop (i + 1) tree) parent
children_skip tree i parent account e other =
    let r = drop_by (λ (entry : ℕ × Account). entry.1) tree i account e in
    let test : option_eq nat_eq r.0.1.parent parent ≡ false =
    ap (λ (a : Account). option_eq nat_eq a.parent parent) r.2 ∙ other in
    ap (λ (l : List (ℕ × Account)). children_of l parent) r.1
    ∙ ap (λ (t : Bool). map (λ entry. entry.0)
    (cond t (r.0 ∷ filter (λ entry. option_eq nat_eq entry.1.parent parent) (drop (i + 1) tree))
    (filter (λ entry. option_eq nat_eq entry.1.parent parent) (drop (i + 1) tree)))) test

pub children_here : (tree : List (ℕ × Account)) (i n : ℕ) (parent : Option ℕ) (account : Account)
    → option_map (λ entry. entry.1) (slice_get tree i) ≡ Some account
    → option_map (λ entry. entry.0) (slice_get tree i) ≡ Some n → option_eq nat_eq account.parent parent ≡ true
    → children_of (drop i tree) parent ≡ n ∷ children_of (drop (i + 1) tree) parent
children_here tree i n parent account e number here =
    let r = mapped_some (λ (entry : ℕ × Account). entry.1) (slice_get tree i) account e in
    let first : r.0.0 ≡ n = let o = ap (option_map (λ (entry : ℕ × Account). entry.0)) (sym r.1) ∙ number in cc in
    let test : option_eq nat_eq r.0.1.parent parent ≡ true =
    ap (λ (a : Account). option_eq nat_eq a.parent parent) r.2 ∙ here in
    ap (λ (l : List (ℕ × Account)). children_of l parent) (drop_at tree i r.0 r.1)
    ∙ ap (λ (t : Bool). map (λ entry. entry.0)
    (cond t (r.0 ∷ filter (λ entry. option_eq nat_eq entry.1.parent parent) (drop (i + 1) tree))
    (filter (λ entry. option_eq nat_eq entry.1.parent parent) (drop (i + 1) tree)))) test
    ∙ ap (λ (k : ℕ). k ∷ children_of (drop (i + 1) tree) parent) first

pub children_some : (tree : List (ℕ × Account)) (i : ℕ) (parent : Option ℕ) (account : Account)
    → option_map (λ entry. entry.1) (slice_get tree i) ≡ Some account → option_eq nat_eq account.parent parent ≡ true
    → 0 < length (children_of (drop i tree) parent)
children_some tree i parent account e here =
    let r = mapped_some (λ (entry : ℕ × Account). entry.1) (slice_get tree i) account e in
    let listed = children_here tree i r.0.0 parent account e (ap (option_map (λ (entry : ℕ × Account). entry.0)) r.1)
    here in
    omega (arith, ap length listed)

-- looking on from the parent, where an account isn't the upper one itself
pub within_up :
    (tree : List (ℕ × Account)) (upper n p : ℕ) → Rises tree → IsRooted tree → parent_of tree n ≡ Some p
    → (n == upper) ≡ false → is_within tree upper p ≡ is_within tree upper n
within_up tree upper n p r rooted e other =
    sym (ap (λ (t : Bool). t || list_any (λ k. k == upper) (ancestors tree n)) other
    ∙ ap (list_any (λ k. k == upper)) (ancestors_up tree n p r rooted e))

pub within_top :
    (tree : List (ℕ × Account)) (upper n : ℕ) → parent_of tree n ≡ None → (n == upper) ≡ false
    → is_within tree upper n ≡ false
within_top tree upper n e other =
    ap (λ (t : Bool). t || list_any (λ k. k == upper) (ancestors tree n)) other
    ∙ ap (list_any (λ k. k == upper)) (ancestors_top tree n e)

-- the way up grows shorter from parent to parent
pub ancestors_fall :
    (tree : List (ℕ × Account)) (n p : ℕ) → Rises tree → IsRooted tree → parent_of tree n ≡ Some p
    → length (ancestors tree p) < length (ancestors tree n)
ancestors_fall tree n p r rooted e = omega (arith, ap length (ancestors_up tree n p r rooted e))
