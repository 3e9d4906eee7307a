-- Accounts that keep their rules are rooted, and form one tree.
use Rattle.std.proofs.Common.{◌≡◌, ℕ, zero, suc, nat_eq, ◌||◌, Bool, true, false, cond, if◌then◌else◌, List, []}
use Rattle.std.proofs.Common.{◌∷◌, length, Option, Some, None, IsSome, is_none, option_map, find, refl, sym, ap, subst}
use Rattle.std.proofs.Common.{◌∙◌, ◌<◌, ◌&&◌, eq-eqb, inl, inr, arith}
use lib.Pointwise.{pointwise}
use Rattle.std.specs.Bool.{beq}
use Rattle.std.specs.List.{list_any}
use Rattle.std.specs.Option.{option_and_then, option_eq}
use Rattle.std.proofs.lemmas.Bool.{cases_order}
use Rattle.std.proofs.lemmas.Bool.Decides.{nat_tests}
use Rattle.book_commodity.specs.Rules.{EachKeeps, stands_before}
use Rattle.book_commodity.specs.Table.{Rises, value_of}
use Rattle.book_commodity.specs.declared.commodity.Commodity.{Commodity}
use Rattle.book_commodity.proofs.ListLemmas.{mapped_some}
use Rattle.book_commodity.proofs.RuleLemmas.{fails_before}
use Rattle.book_commodity.proofs.TableLemmas.{above_value}
use Rattle.book_accounts.specs.AccountRules.{account_rules, fits_below, fits_parent, has_same_name, is_root}
use Rattle.book_accounts.specs.AccountRules.{is_root_number, root_of}
use Rattle.book_accounts.specs.Group.{fits_under}
use Rattle.book_accounts.specs.Rules.{kind_at}
use Rattle.book_accounts.specs.Soundness.{IsTree}
use Rattle.book_accounts.specs.Tree.{IsRooted, IsWayUp, followed_up, nearest_parents, parent_of}
use Rattle.book_accounts.specs.declared.account.Account.{Account}
use Rattle.book_accounts.specs.declared.kind.AccountKind.{AccountKind}
use Rattle.book_accounts.specs.declared.kind.AccountKind.TheVariants.{Root}
use Rattle.book_accounts.proofs.AccountRuleLemmas.{Keeps, by_name, some_value, top_chosen}
use Rattle.book_accounts.proofs.NameLemmas.{pointwise-same}
use Rattle.book_accounts.proofs.TreeLaws.{option_eq-same, option_eq-true}

-- the first that passes a test stands in the table, and passes it
find_there :
    {T : Type 0} (test : ℕ × T → Bool) (es : List (ℕ × T)) (e : ℕ × T) → Rises es → find test es ≡ Some e
    → (value_of e.0 es ≡ Some e.1) × (test e ≡ true)
find_there test [] e r h = absurd cc
find_there {T} test (x ∷ xs) e r h =
    let Found : Bool → Type 0 = λ t. test x ≡ t → cond t (Some x) (find test xs) ≡ Some e
    → (value_of e.0 (x ∷ xs) ≡ Some e.1) × (test e ≡ true) in
    elim (test x) as Found [
      | true ↦ λ passes here.
          let same : x ≡ e = cc in
          let first : value_of x.0 (x ∷ xs) ≡ Some x.1 = ap (λ (t : Bool). if t then Some x.1 else value_of x.0 xs)
          (eq-eqb x.0 x.0 refl) in
          subst (λ (y : ℕ × T). (value_of y.0 (x ∷ xs) ≡ Some y.1) × (test y ≡ true)) same (first, passes)
      | false ↦ λ fails later.
          let rest = find_there test xs e r.1 later in
          (grind (arith, nat_tests, rest.0, above_value x.0 xs r.0), rest.1)
    ] refl h

none_chosen : (parent : Option ℕ) (root : Bool) → root ≡ true → beq (is_none parent) root ≡ true → parent ≡ None
none_chosen None root is top = refl
none_chosen (Some p) true is top = absurd cc
none_chosen (Some p) false is top = absurd cc

-- the root is one of the accounts, and has no parent
root_there :
    (commodities : List (ℕ × Commodity)) (accounts : List (ℕ × Account)) (m : ℕ) → Rises accounts
    → EachKeeps (account_rules commodities accounts) accounts → is_root_number accounts m ≡ true
    → IsSome (value_of m accounts) × (parent_of accounts m ≡ None)
root_there commodities accounts m r keep is =
    let first = mapped_some (λ (e : ℕ × Account). e.0) (find (λ (e : ℕ × Account). is_root e.1.kind) accounts) m
    (option_eq-true (root_of accounts) (Some m) is) in
    let found = find_there (λ (e : ℕ × Account). is_root e.1.kind) accounts first.0 r first.1 in
    let there : value_of m accounts ≡ Some first.0.1 = ap (λ (k : ℕ). value_of k accounts) (sym first.2) ∙ found.0 in
    let kept = by_name commodities accounts m first.0.1 (keep.each m first.0.1 there) in (
      subst (λ (o : Option Account). IsSome o) (sym there) refl,
      ap (option_and_then (λ (a : Account). a.parent)) there
          ∙ none_chosen first.0.1.parent (is_root first.0.1.kind) found.1 kept.top,
    )

-- where the root is an account or one of so many above it, the account has a way up
way_of_leads :
    (most : ℕ) (accounts : List (ℕ × Account)) (n : ℕ)
    → ((m : ℕ) → is_root_number accounts m ≡ true → IsSome (value_of m accounts) × (parent_of accounts m ≡ None))
    → list_any (is_root_number accounts) (n ∷ nearest_parents most accounts n) ≡ true → (way : List ℕ)
    × IsWayUp accounts n way
unfolding nearest_parents
way_of_leads zero accounts n tops leads =
    let Here : Bool → Type 0 = λ t. is_root_number accounts n ≡ t → t || false ≡ true → (way : List ℕ)
    × IsWayUp accounts n way in
    elim (is_root_number accounts n) as Here [ true ↦ λ is hit. ([], tops n is) | false ↦ λ is hit. absurd cc ] refl
    leads
way_of_leads (suc most) accounts n tops leads =
    let Way : Type 0 = (way : List ℕ) × IsWayUp accounts n way in
    let more : ℕ → Bool = λ p. list_any (is_root_number accounts) (p ∷ nearest_parents most accounts p) in
    let Up : Option ℕ → Type 0 = λ o. parent_of accounts n ≡ o → list_any (is_root_number accounts)
    (followed_up o (nearest_parents most accounts)) ≡ true → Way in
    let Here : Bool → Type 0 = λ t. is_root_number accounts n ≡ t
    → t || list_any (is_root_number accounts)
    (followed_up (parent_of accounts n) (nearest_parents most accounts)) ≡ true → Way in
    elim (is_root_number accounts n) as Here [
      | true ↦ λ is hit. ([], tops n is)
      | false ↦ λ is hit. elim (parent_of accounts n) as Up [
        | None ↦ λ up none. absurd cc
        | Some p ↦ λ up some. let way = way_of_leads most accounts p tops some in (p ∷ way.0, (up, way.1))
      ] refl hit
    ] refl leads

-- Accounts that keep their rules are rooted.
pub rooted_of :
    (commodities : List (ℕ × Commodity)) (accounts : List (ℕ × Account)) → Rises accounts
    → EachKeeps (account_rules commodities accounts) accounts → IsRooted accounts
rooted_of commodities accounts r keep = record {
  up = λ n some.
      let found = some_value (value_of n accounts) some in
      let kept = keep.each n found.0 found.1 in
      way_of_leads (length accounts) accounts n (λ m. root_there commodities accounts m r keep) kept.1.1.1.1.1.1.1.0;
}

-- ---- one tree

root_kind : (kind : AccountKind) → is_root kind ≡ true → kind ≡ Root
root_kind Root is = refl
root_kind _ is = absurd cc

top_kind : (parent : Option ℕ) (root : Bool) → parent ≡ None → beq (is_none parent) root ≡ true → root ≡ true
top_kind None true top is = refl
top_kind None false top is = absurd cc
top_kind (Some p) root top is = absurd cc

below_fits :
    (accounts : List (ℕ × Account)) (kind : AccountKind) (parent : Option ℕ) (p : ℕ) (above : Account) → parent ≡ Some p
    → value_of p accounts ≡ Some above → fits_parent accounts kind parent ≡ true → fits_under kind above.kind ≡ true
below_fits accounts kind None p above under there fits = absurd cc
below_fits accounts kind (Some q) p above under there fits =
    let same : q ≡ p = cc in
    let kinds : kind_at accounts q ≡ Some above.kind = ap (kind_at accounts) same
    ∙ ap (option_map (λ (a : Account). a.kind)) there in
    sym (ap (fits_below kind) kinds) ∙ fits

same_name :
    (accounts : List (ℕ × Account)) (m n : ℕ) (a b : Account) → stands_before (has_same_name b) n accounts ≡ false
    → m < n
    → value_of m accounts ≡ Some a → a.parent ≡ b.parent → a.name ≡ b.name → ⊥
same_name accounts m n a b once less there parent name =
    let fails = fails_before (has_same_name b) n m a accounts once less there in
    let both : has_same_name b a ≡ true =
    ap (λ (p : Option ℕ). option_eq nat_eq p b.parent && pointwise nat_eq a.name b.name) parent
    ∙ ap (λ (t : Bool). t && pointwise nat_eq a.name b.name) (option_eq-same b.parent)
    ∙ ap (λ (l : List ℕ). pointwise nat_eq l b.name) name
    ∙ pointwise-same b.name in
    cc

-- Accounts that keep their rules form one tree.
pub tree_of :
    (commodities : List (ℕ × Commodity)) (accounts : List (ℕ × Account)) → Rises accounts
    → EachKeeps (account_rules commodities accounts) accounts → IsTree accounts
tree_of commodities accounts r keep =
    let keeps : (n : ℕ) (a : Account) → value_of n accounts ≡ Some a → Keeps commodities accounts n a =
    λ n a there. by_name commodities accounts n a (keep.each n a there) in
    let root : (n : ℕ) (a : Account) → value_of n accounts ≡ Some a → a.parent ≡ None → root_of accounts ≡ Some n =
    λ n a there top.
    let is = keeps n a there in
    option_eq-true (root_of accounts) (Some n)
    (top_chosen a.parent (is_root a.kind) (is_root_number accounts n) top is.top is.one_root) in
    record {
      rooted = rooted_of commodities accounts r keep;
      one_top = λ m n a b ma nb ta tb.
          let both : Some m ≡ Some n = sym (root m a ma ta) ∙ root n b nb tb in cc;
      top_is_root = λ n a na ta. root_kind a.kind (top_kind a.parent (is_root a.kind) ta (keeps n a na).top);
      names_differ = λ m n a b ma nb parents names.
          elim (cases_order m n) [
            | inl same ↦ same
            | inr (inl less) ↦ absurd (same_name accounts m n a b (keeps n b nb).own_name less ma parents names)
            | inr (inr more) ↦ absurd
                (same_name accounts n m b a (keeps m a ma).own_name more nb (sym parents) (sym names))
          ];
      kinds_fit = λ n p a above na under pa. below_fits accounts a.kind a.parent p above under pa (keeps n a na).parent;
    }
