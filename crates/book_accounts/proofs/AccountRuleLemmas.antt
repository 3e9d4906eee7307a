-- How the rules of accounts stay where a commodity is added, and where an account is put or taken.
use Rattle.std.proofs.Common.{◌≡◌, ◌≢◌, ℕ, nat_eq, ◌&&◌, ◌||◌, not, Bool, true, false, List, [], ◌∷◌, Option}
use Rattle.std.proofs.Common.{Some, None, IsSome, IsTrue, if◌then◌else◌, is_none, is_some, option_map, find, refl, sym}
use Rattle.std.proofs.Common.{ap, subst, ◌∙◌, eq-eqb, arith}
use Rattle.std.specs.Bool.{beq}
use Rattle.std.specs.List.{list_any}
use Rattle.std.specs.Option.{option_and_then, option_eq}
use lib.Pointwise.{pointwise}
use Rattle.std.proofs.lemmas.Bool.{and_parts, eqb-true, ne_eqb, not-true, not_from_false, or_left, or_right}
use Rattle.book_commodity.specs.Rules.{AllHold, EachKeeps, stands_before}
use Rattle.book_commodity.specs.Table.{Rises, value_of, with_entry, without_entry}
use Rattle.book_commodity.specs.declared.commodity.Commodity.{Commodity}
use Rattle.book_commodity.proofs.CommodityRuleLemmas.{currency_stays}
use Rattle.book_commodity.proofs.DrawnLemmas.{Stays, some_stays}
use Rattle.book_commodity.proofs.DrawnLemmas.{value_without}
use Rattle.book_commodity.proofs.ListLemmas.{mapped_none}
use Rattle.book_commodity.proofs.RuleLemmas.{each_still, every_with, find_with, find_without, none_before}
use Rattle.book_commodity.proofs.RuleLemmas.{none_before_with, none_before_without}
use Rattle.book_commodity.proofs.TableLemmas.{rises_with, rises_without, value_of_with}
use Rattle.book_accounts.specs.AccountRules.{account_rules, fits_basis, fits_below, fits_parent, has_parent_unless_root}
use Rattle.book_accounts.specs.AccountRules.{has_same_name, is_placeholder_if_root, is_root, is_root_if_of_kind}
use Rattle.book_accounts.specs.AccountRules.{is_root_number, leads_to_root, root_of}
use Rattle.book_accounts.specs.Group.{fits_under, is_security}
use Rattle.book_accounts.specs.Rules.{is_namesake, kind_at, name_taken}
use Rattle.book_accounts.specs.Tree.{IsRooted, IsWayUp, ancestors, children_of}
use Rattle.book_accounts.specs.declared.account.Account.{Account}
use Rattle.book_accounts.specs.declared.kind.AccountKind.{AccountKind}
use Rattle.book_accounts.specs.declared.kind.AccountKind.TheVariants.{Root}
use Rattle.book_accounts.specs.declared.rule.TreeRule.TheVariants.{NameTaken}
use Rattle.book_accounts.proofs.NameLemmas.{own_name}
use Rattle.book_accounts.proofs.TreeLaws.{no_child, option_eq-true, rooted_without}
use Rattle.book_accounts.proofs.TreeLemmas.{other_without, way_of}

-- The rules of an account by their names, but for the way up to the root.
pub record Keeps
    (commodities : List (ℕ × Commodity)) (accounts : List (ℕ × Account)) (n : ℕ) (account : Account)
    : Type 0 where
  pub commodity : IsTrue (is_some (value_of account.commodity commodities))
  pub basis : IsTrue (fits_basis commodities (is_security account.kind) account.basis)
  pub top : IsTrue (has_parent_unless_root account)
  pub placeholder : IsTrue (is_placeholder_if_root account)
  pub one_root : IsTrue (is_root_if_of_kind accounts n account)
  pub parent : IsTrue (fits_parent accounts account.kind account.parent)
  pub own_name : stands_before (has_same_name account) n accounts ≡ false

pub by_name :
    (commodities : List (ℕ × Commodity)) (accounts : List (ℕ × Account)) (n : ℕ) (account : Account)
    → AllHold (account_rules commodities accounts n account) → Keeps commodities accounts n account
by_name commodities accounts n account kept = record {
  commodity = kept.0;
  basis = kept.1.0;
  top = kept.1.1.0;
  placeholder = kept.1.1.1.0;
  one_root = kept.1.1.1.1.0;
  parent = kept.1.1.1.1.1.0;
  own_name = not-true _ kept.1.1.1.1.1.1.0;
}

all_hold :
    (commodities : List (ℕ × Commodity)) (accounts : List (ℕ × Account)) (n : ℕ) (account : Account)
    → Keeps commodities accounts n account → IsTrue (leads_to_root accounts n)
    → AllHold (account_rules commodities accounts n account)
all_hold commodities accounts n account is leads =
    let own_name = not_from_false _ is.own_name in
    (is.commodity, (is.basis, (is.top, (is.placeholder, (is.one_root, (is.parent, (own_name, (leads, tt))))))))

-- ---- the ways up to the root

pub some_value : {T : Type 0} (found : Option T) → IsSome found → (value : T) × (found ≡ Some value)
some_value None h = absurd cc
some_value (Some value) h = (value, refl)

pub top_chosen :
    (parent : Option ℕ) (root number : Bool) → parent ≡ None → beq (is_none parent) root ≡ true
    → (not root || number) ≡ true → number ≡ true
top_chosen None true number top one chosen = chosen
top_chosen None false number top one chosen = absurd cc
top_chosen (Some p) root number top one chosen = absurd cc

-- a way ends at the root, where only the root has no parent
leads_of_way :
    (commodities : List (ℕ × Commodity)) (accounts : List (ℕ × Account)) (n : ℕ) (way : List ℕ)
    → ((m : ℕ) (a : Account) → value_of m accounts ≡ Some a → Keeps commodities accounts m a) → IsWayUp accounts n way
    → list_any (is_root_number accounts) (n ∷ way) ≡ true
leads_of_way commodities accounts n [] keeps way =
    let found = some_value (value_of n accounts) way.0 in
    let top : found.0.parent ≡ None = ap (option_and_then (λ (a : Account). a.parent)) (sym found.1) ∙ way.1 in
    let is = keeps n found.0 found.1 in
    or_left (is_root_number accounts n) false
    (top_chosen found.0.parent (is_root found.0.kind) (is_root_number accounts n) top is.top is.one_root)
leads_of_way commodities accounts n (p ∷ above) keeps way =
    or_right (is_root_number accounts n) _ (leads_of_way commodities accounts p above keeps way.1)

-- so all rules are kept where the accounts are rooted and the others of their rules are kept
with_ways :
    (commodities : List (ℕ × Commodity)) (accounts : List (ℕ × Account)) → Rises accounts → IsRooted accounts
    → ((n : ℕ) (a : Account) → value_of n accounts ≡ Some a → Keeps commodities accounts n a)
    → EachKeeps (account_rules commodities accounts) accounts
with_ways commodities accounts r rooted keeps = record {
  each = λ n a there.
      let some = subst (λ (o : Option Account). IsSome o) (sym there) refl in
      all_hold commodities accounts n a (keeps n a there)
      (leads_of_way commodities accounts n (ancestors accounts n) keeps (way_of accounts n r rooted some));
}

-- ---- where commodities are added

basis_stays :
    (old new : List (ℕ × Commodity)) (security : Bool) (basis : Option ℕ) → Stays old new
    → IsTrue (fits_basis old security basis)
    → IsTrue (fits_basis new security basis)
basis_stays old new true (Some basis) stays fits =
    currency_stays (value_of basis old) (value_of basis new) (stays.each basis) fits
basis_stays old new true None stays fits = fits
basis_stays old new false basis stays fits = fits

-- The rules of accounts see of the commodities only those that are there.
pub accounts_beside :
    (old new : List (ℕ × Commodity)) (accounts : List (ℕ × Account)) → Stays old new
    → EachKeeps (account_rules old accounts) accounts → EachKeeps (account_rules new accounts) accounts
accounts_beside old new accounts stays =
    each_still (account_rules old accounts) (account_rules new accounts) accounts
    (λ k a there kept.
    let commodity = some_stays (value_of a.commodity old) (value_of a.commodity new) (stays.each a.commodity) kept.0 in
    (commodity, (basis_stays old new (is_security a.kind) a.basis stays kept.1.0, kept.1.1)))

-- ---- kinds and names

-- no root stands under another account
pub no_root_below : (kind above : AccountKind) → fits_under kind above ≡ true → is_root kind ≡ false
no_root_below Root above fits = absurd cc
no_root_below _ above fits = refl

below_stays :
    (kind : AccountKind) (found later : Option AccountKind)
    → ((above : AccountKind) → found ≡ Some above → later ≡ Some above)
    → IsTrue (fits_below kind found) → IsTrue (fits_below kind later)
below_stays kind None later same fits = absurd cc
below_stays kind (Some above) later same fits = ap (fits_below kind) (same above refl) ∙ fits

-- a parent fits as long as it has its kind
parent_stays :
    (old new : List (ℕ × Account)) (kind : AccountKind) (parent : Option ℕ)
    → ((p : ℕ) (above : AccountKind) → parent ≡ Some p → kind_at old p ≡ Some above → kind_at new p ≡ Some above)
    → IsTrue (fits_parent old kind parent) → IsTrue (fits_parent new kind parent)
parent_stays old new kind None same fits = fits
parent_stays old new kind (Some p) same fits =
    below_stays kind (kind_at old p) (kind_at new p) (λ above. same p above refl) fits

same_text : (xs ys : List ℕ) → pointwise nat_eq xs ys ≡ true → xs ≡ ys
same_text [] [] e = refl
same_text [] (y ∷ ys) e = absurd cc
same_text (x ∷ xs) [] e = absurd cc
same_text (x ∷ xs) (y ∷ ys) e =
    let parts = and_parts (nat_eq x y) (pointwise nat_eq xs ys) e in
    ap (λ (z : ℕ). z ∷ xs) (eqb-true x y parts.0) ∙ ap (λ (l : List ℕ). y ∷ l) (same_text xs ys parts.1)

false_from : (b : Bool) → (b ≡ true → ⊥) → b ≡ false
false_from true not_true = absurd (not_true refl)
false_from false not_true = refl

-- The name of an account that is put is free: none of the others under its parent has it, but perhaps one set apart.
pub record IsFree (accounts : List (ℕ × Account)) (n : ℕ) (new : Account) (p : ℕ) : Type 0 where
  pub apart : Option ℕ
  pub others : (k : ℕ) → k ≢ n → option_eq nat_eq apart (Some k) ≡ false
  pub under : new.parent ≡ Some p
  pub free : name_taken accounts apart p new.name ≡ None

-- so no account before it has it,
free_before :
    (accounts : List (ℕ × Account)) (n p : ℕ) (new : Account) → IsFree accounts n new p
    → stands_before (has_same_name new) n accounts ≡ false
free_before accounts n p new is =
    let taken = is_namesake is.apart p new.name in
    let missing = mapped_none (λ (e : ℕ × Account). e.0) (find taken accounts)
    (mapped_none (λ id. NameTaken id) _ is.free) in
    none_before taken (has_same_name new) n accounts
    (λ e below other.
    let apart = is.others e.0 (λ same. absurd (omega (arith, same, below))) in
    let Named : Option ℕ → Type 0 =
    λ parent. option_eq nat_eq e.1.parent parent && pointwise nat_eq e.1.name new.name ≡ false in
    subst Named (sym is.under)
    (subst (λ (t : Bool). not t && (option_eq nat_eq e.1.parent (Some p) && pointwise nat_eq e.1.name new.name)
    ≡ false) apart other))
    missing

-- and it has no other's name
free_apart :
    (accounts : List (ℕ × Account)) (n p k : ℕ) (new a : Account) → IsFree accounts n new p → k ≢ n
    → value_of k accounts ≡ Some a → has_same_name a new ≡ false
free_apart accounts n p k new a is other there =
    false_from (has_same_name a new)
    (λ same.
    let parts = and_parts (option_eq nat_eq new.parent a.parent) (pointwise nat_eq new.name a.name) same in
    let parent : a.parent ≡ Some p = sym (option_eq-true new.parent a.parent parts.0) ∙ is.under in
    own_name accounts is.apart p new.name is.free k a (is.others k other) there parent
    (sym (same_text new.name a.name parts.1)))

-- ---- the root

-- the root stays where an account is put or taken that is none
root_with :
    (accounts : List (ℕ × Account)) (n : ℕ) (new : Account) → is_root new.kind ≡ false
    → ((old : Account) → value_of n accounts ≡ Some old → is_root old.kind ≡ false)
    → root_of (with_entry n new accounts) ≡ root_of accounts
root_with accounts n new other old =
    ap (option_map (λ (e : ℕ × Account). e.0))
    (find_with (λ (e : ℕ × Account). is_root e.1.kind) n new accounts other old)

root_without :
    (accounts : List (ℕ × Account)) (n : ℕ)
    → ((old : Account) → value_of n accounts ≡ Some old → is_root old.kind ≡ false)
    → root_of (without_entry n accounts) ≡ root_of accounts
root_without accounts n old =
    ap (option_map (λ (e : ℕ × Account). e.0)) (find_without (λ (e : ℕ × Account). is_root e.1.kind) n accounts old)

one_root_stays :
    (old new : List (ℕ × Account)) (k : ℕ) (a : Account) → root_of new ≡ root_of old
    → IsTrue (is_root_if_of_kind old k a)
    → IsTrue (is_root_if_of_kind new k a)
one_root_stays old new k a same is =
    subst (λ (root : Option ℕ). IsTrue (not (is_root a.kind) || option_eq nat_eq root (Some k))) (sym same) is

-- ---- where an account is put

-- What an account brings that is put under a number, where another stood or none.
pub record IsFit
    (commodities : List (ℕ × Commodity)) (accounts : List (ℕ × Account)) (n : ℕ) (new : Account)
    : Type 0 where
  pub commodity : IsTrue (is_some (value_of new.commodity commodities))
  pub basis : IsTrue (fits_basis commodities (is_security new.kind) new.basis)
  pub parent : ℕ
  pub free : IsFree accounts n new parent
  pub above : AccountKind
  pub there : kind_at accounts parent ≡ Some above
  pub fits : fits_under new.kind above ≡ true
  -- each account that was there keeps its kind
  pub kinds : (m : ℕ) (kind : AccountKind) → kind_at accounts m ≡ Some kind
      → kind_at (with_entry n new accounts) m ≡ Some kind
  pub rooted : IsRooted (with_entry n new accounts)

-- it is no root, nor was the one in whose place it stands, so that the root stays
pub root_stays_with :
    (commodities : List (ℕ × Commodity)) (accounts : List (ℕ × Account)) (n : ℕ) (new : Account)
    → IsFit commodities accounts n new
    → root_of (with_entry n new accounts) ≡ root_of accounts
root_stays_with commodities accounts n new is =
    let other = no_root_below new.kind is.above is.fits in
    let here : kind_at (with_entry n new accounts) n ≡ Some new.kind =
    ap (option_map (λ (a : Account). a.kind))
    (value_of_with n n new accounts ∙ ap (λ (t : Bool). if t then Some new else value_of n accounts)
    (eq-eqb n n refl)) in
    root_with accounts n new other
    (λ old there.
    let was = is.kinds n old.kind (ap (option_map (λ (a : Account). a.kind)) there) in
    let same : Some old.kind ≡ Some new.kind = sym was ∙ here in
    let kind : old.kind ≡ new.kind = cc in
    ap is_root kind ∙ other)

own_rules :
    (commodities : List (ℕ × Commodity)) (accounts : List (ℕ × Account)) (n : ℕ) (new : Account)
    → IsFit commodities accounts n new → Keeps commodities (with_entry n new accounts) n new
own_rules commodities accounts n new is =
    let later = with_entry n new accounts in
    let other = no_root_below new.kind is.above is.fits in
    let below = ap (fits_below new.kind) (is.kinds is.parent is.above is.there) ∙ is.fits in
    let own = free_before accounts n is.parent new is.free in
    record {
      commodity = is.commodity;
      basis = is.basis;
      top = ap (λ (p : Option ℕ). beq (is_none p) (is_root new.kind)) is.free.under ∙ ap (beq false) other;
      placeholder = ap (λ (t : Bool). not t || new.placeholder) other;
      one_root = ap (λ (t : Bool). not t || is_root_number later n) other;
      parent = subst (λ (p : Option ℕ). IsTrue (fits_parent later new.kind p)) (sym is.free.under) below;
      own_name = none_before_with (has_same_name new) n n new accounts (λ before. absurd (omega (arith, before))) own;
    }

-- The account that is put keeps its rules, and all others keep theirs.
pub accounts_with :
    (commodities : List (ℕ × Commodity)) (accounts : List (ℕ × Account)) (n : ℕ) (new : Account) → Rises accounts
    → IsFit commodities accounts n new → EachKeeps (account_rules commodities accounts) accounts
    → EachKeeps (account_rules commodities (with_entry n new accounts)) (with_entry n new accounts)
accounts_with commodities accounts n new r is keep =
    let later = with_entry n new accounts in
    let root = root_stays_with commodities accounts n new is in
    with_ways commodities later (rises_with n new accounts r) is.rooted
    (every_with (Keeps commodities accounts) (Keeps commodities later) n new accounts
    (own_rules commodities accounts n new is)
    (λ k a other there old. record {
      commodity = old.commodity;
      basis = old.basis;
      top = old.top;
      placeholder = old.placeholder;
      one_root = one_root_stays accounts later k a root old.one_root;
      parent = parent_stays accounts later a.kind a.parent (λ p above under. is.kinds p above) old.parent;
      own_name = none_before_with (has_same_name a) k n new accounts
          (λ before. free_apart accounts n is.parent k new a is.free other there) old.own_name;
    })
    (λ k a there. by_name commodities accounts k a (keep.each k a there)))

-- ---- where an account is taken that has no account under it, and isn't the root

pub kind_left :
    (accounts : List (ℕ × Account)) (n p : ℕ) (above : AccountKind) → Rises accounts → p ≢ n
    → kind_at accounts p ≡ Some above
    → kind_at (without_entry n accounts) p ≡ Some above
kind_left accounts n p above r other had =
    ap (option_map (λ (a : Account). a.kind)) (other_without accounts n r p (ne_eqb p n other)) ∙ had

pub root_stays_without :
    (accounts : List (ℕ × Account)) (n : ℕ) (old : Account) → value_of n accounts ≡ Some old → is_root old.kind ≡ false
    → root_of (without_entry n accounts) ≡ root_of accounts
root_stays_without accounts n old there other =
    root_without accounts n
    (λ account found.
    let both : Some old ≡ Some account = sym there ∙ found in
    let one : old ≡ account = cc in
    subst (λ (a : Account). is_root a.kind ≡ false) one other)

pub accounts_without :
    (commodities : List (ℕ × Commodity)) (accounts : List (ℕ × Account)) (n : ℕ) → Rises accounts → IsRooted accounts
    → root_of (without_entry n accounts) ≡ root_of accounts → children_of accounts (Some n) ≡ []
    → EachKeeps (account_rules commodities accounts) accounts
    → EachKeeps (account_rules commodities (without_entry n accounts)) (without_entry n accounts)
accounts_without commodities accounts n r rooted root none keep =
    let later = without_entry n accounts in
    with_ways commodities later (rises_without n accounts r) (rooted_without accounts n r none rooted)
    (λ k a left.
    let there = value_without k n a accounts r left in
    let old = by_name commodities accounts k a (keep.each k a there) in
    let parent = ap (option_and_then (λ (account : Account). account.parent)) there in
    let apart = λ (p : ℕ) (under : a.parent ≡ Some p) (same : p ≡ n). no_child accounts n k none
    (parent ∙ under ∙ ap (λ (m : ℕ). Some m) same) in
    record {
      commodity = old.commodity;
      basis = old.basis;
      top = old.top;
      placeholder = old.placeholder;
      one_root = one_root_stays accounts later k a root old.one_root;
      parent = parent_stays accounts later a.kind a.parent
          (λ p above under. kind_left accounts n p above r (apart p under)) old.parent;
      own_name = none_before_without (has_same_name a) k n accounts old.own_name;
    })
