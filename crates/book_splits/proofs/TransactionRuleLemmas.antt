-- What the check of a transaction sees of the commodities and of the accounts, and how it stays where they change.
use Rattle.std.proofs.Common.{◌≡◌, ℕ, ◌+◌, ◌==◌, ◌&&◌, not, Bool, true, false, List, [], ◌∷◌}
use Rattle.std.proofs.Common.{Option, Some, None, IsTrue, is_none, if◌then◌else◌, refl, sym, ap}
use Rattle.std.proofs.Common.{subst, ◌∙◌, eq-eqb}
use Rattle.std.specs.List.{list_any}
use Rattle.std.specs.Ordering.{int_eq}
use Rattle.std.proofs.lemmas.Bool.{or_left, or_right}
use Rattle.std.proofs.lemmas.List.Folds.{list_any-append}
use Rattle.book_commodity.specs.Rules.{AllKept, broken_where}
use Rattle.book_commodity.specs.Table.{value_of}
use Rattle.book_commodity.specs.declared.commodity.Commodity.{Commodity}
use Rattle.book_commodity.proofs.RuleLemmas.{kept_back, kept_both, kept_front, not-broken}
use Rattle.book_accounts.specs.Group.{is_security}
use Rattle.book_accounts.specs.declared.account.Account.{Account}
use Rattle.book_accounts.specs.declared.kind.AccountKind.{AccountKind}
use Rattle.book_splits.specs.Balance.{has_splits, splits_of}
use Rattle.book_splits.specs.Check.{currency_rules, is_basis, rules_of_splits, split_rules}
use Rattle.book_splits.specs.declared.rule.TxnRule.TheVariants.{Placeholder, Basis, ValueNotQuantity}
use Rattle.book_splits.specs.declared.split.Split.{Split}
use Rattle.book_splits.specs.declared.transaction.Txn.{Txn}

pub is_none_of : {T : Type 0} (found : Option T) → IsTrue (is_none found) → found ≡ None
is_none_of None e = refl
is_none_of (Some x) e = absurd cc

-- ---- where commodities are added

pub currency_kept :
    (currency : ℕ) (found later : Option Commodity) → ((c : Commodity) → found ≡ Some c → later ≡ Some c)
    → AllKept (currency_rules currency found) → AllKept (currency_rules currency later)
currency_kept currency None later same kept = absurd (let broken = kept.0 in cc)
currency_kept currency (Some c) later same kept =
    subst (λ (o : Option Commodity). AllKept (currency_rules currency o)) (sym (same c refl)) kept

-- ---- where accounts change

-- An account takes splits as another did before it: what the rules of a split see of it is the same, and it doesn't
-- become a placeholder.
pub record TakesAs (old new : Account) : Type 0 where
  pub kind : old.kind ≡ new.kind
  pub commodity : old.commodity ≡ new.commodity
  pub basis : old.basis ≡ new.basis
  pub placeholder : old.placeholder ≡ false → new.placeholder ≡ false

-- Where there was an account, there is one that takes splits as it did.
pub record Suits (found later : Option Account) : Type 0 where
  pub each : (old : Account) → found ≡ Some old → (new : Account) × (later ≡ Some new) × TakesAs old new

pub taken_split :
    (currency place : ℕ) (split : Split) (old new : Account) → TakesAs old new
    → AllKept (split_rules currency place split (Some old)) → AllKept (split_rules currency place split (Some new))
taken_split currency place split old new takes kept =
    let still = takes.placeholder (not-broken _ _ kept.0) in
    let Based : AccountKind → Option ℕ → Type 0 =
    λ kind base. broken_where (is_security kind && not (is_basis currency base)) (Basis split.account) ≡ None in
    let Valued : ℕ → Type 0 =
    λ commodity. broken_where ((commodity == currency) && not (int_eq split.value split.quantity))
    (ValueNotQuantity place) ≡ None in
    let based = subst (λ (k : AccountKind). Based k new.basis) takes.kind
    (subst (λ (base : Option ℕ). Based old.kind base) takes.basis kept.1.1.0) in
    let valued = subst Valued takes.commodity kept.1.1.1.0 in
    (ap (λ (t : Bool). broken_where t (Placeholder split.account)) still, (kept.1.0, (based, (valued, tt))))

pub split_kept :
    (currency place : ℕ) (split : Split) (found later : Option Account) → Suits found later
    → AllKept (split_rules currency place split found) → AllKept (split_rules currency place split later)
split_kept currency place split None later suits kept = absurd (let broken = kept.0 in cc)
split_kept currency place split (Some old) later suits kept =
    let new = suits.each old refl in
    subst (λ (o : Option Account). AllKept (split_rules currency place split o)) (sym new.1)
    (taken_split currency place split old new.0 new.2 kept)

-- the rules of splits see of the accounts only theirs
pub splits_kept :
    (old new : List (ℕ × Account)) (currency place : ℕ) (splits : List Split)
    → ((account : ℕ) → list_any (λ (split : Split). split.account == account) splits ≡ true
    → Suits (value_of account old) (value_of account new))
    → AllKept (rules_of_splits old currency place splits) → AllKept (rules_of_splits new currency place splits)
splits_kept old new currency place [] suits kept = tt
splits_kept old new currency place (split ∷ more) suits kept =
    let before = split_rules currency place split (value_of split.account old) in
    let rest = rules_of_splits old currency (place + 1) more in
    let after = split_rules currency place split (value_of split.account new) in
    let here = suits split.account (or_left _ _ (eq-eqb split.account split.account refl)) in
    let later = λ (account : ℕ) (has : list_any (λ (s : Split). s.account == account) more ≡ true). suits account
    (or_right (split.account == account) _ has) in
    kept_both after (rules_of_splits new currency (place + 1) more)
    (split_kept currency place split (value_of split.account old) (value_of split.account new) here
    (kept_front before rest kept))
    (splits_kept old new currency (place + 1) more later (kept_back before rest kept))

-- the splits of a transaction are among all splits
pub has_of_one :
    (k account : ℕ) (t : Txn) (ts : List (ℕ × Txn)) → value_of k ts ≡ Some t
    → list_any (λ (split : Split). split.account == account) t.splits ≡ true → has_splits ts account ≡ true
has_of_one k account t [] there has = absurd cc
has_of_one k account t (e ∷ ts) there has =
    let on = λ (split : Split). split.account == account in
    let both = list_any-append on e.1.splits (splits_of ts) in
    let Here : Bool → Type 0 = λ b. (if b then Some e.1 else value_of k ts) ≡ Some t
    → has_splits (e ∷ ts) account ≡ true in
    elim (k == e.0) as Here [
      | true ↦ λ same.
          let one : e.1 ≡ t = cc in
          both ∙ or_left (list_any on e.1.splits) _ (ap (λ (x : Txn). list_any on x.splits) one ∙ has)
      | false ↦ λ rest. both ∙ or_right (list_any on e.1.splits) _ (has_of_one k account t ts rest has)
    ] there
