-- An account that is added or moved by the rules of the tree fits into the book, and the tree stays rooted.
use Rattle.std.proofs.Common.{◌≡◌, ℕ, ◌==◌, Bool, true, false, if◌then◌else◌, List, [], ◌∷◌, Option, Some}
use Rattle.std.proofs.Common.{None, IsTrue, IsSome, IsNone, is_none, is_some, option_map, refl, sym, ap, subst, ◌∙◌}
use Rattle.std.proofs.lemmas.Bool.{eqb-true, ne_eqb}
use Rattle.book_commodity.specs.Table.{Rises, value_of, with_entry}
use Rattle.book_commodity.specs.declared.commodity.Commodity.{Commodity}
use Rattle.book_commodity.proofs.DrawnLemmas.{value_kept}
use Rattle.book_commodity.proofs.ListLemmas.{mapped_some}
use Rattle.book_commodity.proofs.RuleLemmas.{kept_of}
use Rattle.book_commodity.proofs.TableLemmas.{value_of_with}
use Rattle.book_accounts.specs.AccountRules.{fits_basis}
use Rattle.book_accounts.specs.Group.{fits_under, is_security}
use Rattle.book_accounts.specs.Rules.{add_rule_under, cycle, is_within, kind_at, move_rule, name_taken, parent_kind}
use Rattle.book_accounts.specs.Rules.{unknown_account}
use Rattle.book_accounts.specs.Tree.{IsRooted}
use Rattle.book_accounts.specs.declared.account.Account.{Account}
use Rattle.book_accounts.specs.declared.kind.AccountKind.{AccountKind}
use Rattle.book_accounts.specs.declared.rule.TreeRule.{TreeRule}
use Rattle.book_accounts.specs.declared.rule.TreeRule.TheVariants.{Cycle, ParentKind}
use Rattle.book_accounts.proofs.AccountRuleLemmas.{IsFit}
use Rattle.book_accounts.proofs.TreeLaws.{rooted_added, rooted_moved}

-- ---- what the rules of the tree say where they aren't broken

known_by :
    (found : Option Account) (rule : TreeRule) → (if is_none found then Some rule else None) ≡ None → (a : Account)
    × (found ≡ Some a)
known_by None rule e = absurd cc
known_by (Some a) rule e = (a, refl)

not_where : (test : Bool) (rule : TreeRule) → (if test then Some rule else None) ≡ None → test ≡ false
not_where true rule e = absurd cc
not_where false rule e = refl

fits_where : (test : Bool) → (if test then None else Some ParentKind) ≡ None → test ≡ true
fits_where true e = refl
fits_where false e = absurd cc

fits_of :
    (kind above : AccountKind) (lower upper : Option AccountKind) → lower ≡ Some kind → upper ≡ Some above
    → parent_kind lower upper ≡ None → fits_under kind above ≡ true
fits_of kind above lower upper is there e =
    let upper_is = subst (λ (o : Option AccountKind). parent_kind lower o ≡ None) there e in
    fits_where (fits_under kind above)
    (subst (λ (o : Option AccountKind). parent_kind o (Some above) ≡ None) is upper_is)

-- ---- the kinds of the others

kinds_added :
    (accounts : List (ℕ × Account)) (n : ℕ) (new : Account) → value_of n accounts ≡ None → (m : ℕ) (kind : AccountKind)
    → kind_at accounts m ≡ Some kind → kind_at (with_entry n new accounts) m ≡ Some kind
kinds_added accounts n new free m kind had =
    let was = mapped_some (λ (a : Account). a.kind) (value_of m accounts) kind had in
    ap (option_map (λ (a : Account). a.kind)) (value_kept m n new was.0 accounts free was.1)
    ∙ ap (λ (k : AccountKind). Some k) was.2

kinds_moved :
    (accounts : List (ℕ × Account)) (n : ℕ) (old new : Account) → value_of n accounts ≡ Some old → old.kind ≡ new.kind
    → (m : ℕ) (kind : AccountKind)
    → kind_at accounts m ≡ Some kind → kind_at (with_entry n new accounts) m ≡ Some kind
kinds_moved accounts n old new there same m kind had =
    let Kind : Bool → Type 0 = λ t. (m == n) ≡ t → option_map (λ (a : Account). a.kind)
    (if t then Some new else value_of m accounts) ≡ Some kind in
    ap (option_map (λ (a : Account). a.kind)) (value_of_with m n new accounts)
    ∙ elim (m == n) as Kind [
      | true ↦ λ here.
          let was : kind_at accounts m ≡ Some old.kind = ap (kind_at accounts) (eqb-true m n here)
          ∙ ap (option_map (λ (a : Account). a.kind)) there in
          ap (λ (k : AccountKind). Some k) (sym same) ∙ sym was ∙ had
      | false ↦ λ other. had
    ] refl

-- ---- an account that is added

pub fit_added :
    (commodities : List (ℕ × Commodity)) (accounts : List (ℕ × Account)) (n : ℕ) (new : Account) (parent : Option ℕ)
    → IsTrue (is_some (value_of new.commodity commodities))
    → IsTrue (fits_basis commodities (is_security new.kind) new.basis)
    → IsRooted accounts → value_of n accounts ≡ None → new.parent ≡ parent → add_rule_under accounts new parent ≡ None
    → IsFit commodities accounts n new
fit_added commodities accounts n new None commodity basis rooted free under e = absurd cc
fit_added commodities accounts n new (Some p) commodity basis rooted free under e =
    let kept = kept_of (unknown_account accounts p ∷ name_taken accounts None p new.name
    ∷ parent_kind (Some new.kind) (kind_at accounts p) ∷ []) e in
    let above = known_by (value_of p accounts) _ kept.0 in
    let kind = ap (option_map (λ (a : Account). a.kind)) above.1 in
    record {
      commodity = commodity;
      basis = basis;
      parent = p;
      free = record { apart = None; others = λ k other. refl; under = under; free = kept.1.0 };
      above = above.0.kind;
      there = kind;
      fits = fits_of new.kind above.0.kind (Some new.kind) (kind_at accounts p) refl kind kept.1.1.0;
      kinds = kinds_added accounts n new free;
      rooted = rooted_added accounts n new p rooted under (subst (λ (o : Option Account). IsSome o) (sym above.1) refl)
          (subst (λ (o : Option Account). IsNone o) (sym free) refl);
    }

-- ---- an account that gets another name or another parent

pub fit_moved :
    (commodities : List (ℕ × Commodity)) (accounts : List (ℕ × Account)) (n : ℕ) (old new : Account) (p : ℕ)
    → value_of n accounts ≡ Some old → old.kind ≡ new.kind
    → IsTrue (is_some (value_of new.commodity commodities))
    → IsTrue (fits_basis commodities (is_security new.kind) new.basis)
    → Rises accounts → IsRooted accounts → new.parent ≡ Some p → move_rule accounts n new.name p ≡ None
    → IsFit commodities accounts n new
fit_moved commodities accounts n old new p there same commodity basis r rooted under e =
    let rules =
    unknown_account accounts n ∷ unknown_account accounts p ∷ name_taken accounts (Some n) p new.name
    ∷ cycle accounts n p ∷ parent_kind (kind_at accounts n) (kind_at accounts p) ∷ [] in
    let kept = kept_of rules e in
    let above = known_by (value_of p accounts) _ kept.1.0 in
    let kind = ap (option_map (λ (a : Account). a.kind)) above.1 in
    let own : kind_at accounts n ≡ Some new.kind = ap (option_map (λ (a : Account). a.kind)) there
    ∙ ap (λ (k : AccountKind). Some k) same in
    record {
      commodity = commodity;
      basis = basis;
      parent = p;
      free = record {
        apart = Some n;
        others = λ k other. ne_eqb n k (λ e. other (sym e));
        under = under;
        free =
            kept.1.1.0;
      };
      above = above.0.kind;
      there = kind;
      fits = fits_of new.kind above.0.kind (kind_at accounts n) (kind_at accounts p) own kind kept.1.1.1.1.0;
      kinds = kinds_moved accounts n old new there same;
      rooted = rooted_moved accounts n new p r rooted under
          (subst (λ (o : Option Account). IsSome o) (sym above.1) refl)
          (not_where (is_within accounts n p) Cycle kept.1.1.1.0);
    }
