-- Laws of rules asked in order, and what holds of a transaction that breaks none.
use Rattle.std.proofs.Common.{◌≡◌, OnOk, ℕ, suc, ◌+◌, ◌<◌, pos, ◌+ℤ◌, List, [], ◌∷◌, ◌++◌, length, map, take, drop}
use Rattle.std.proofs.Common.{get_or, Option, Some, None, Result, Ok, Err, All, sym, ap, subst, ◌∙◌, arith}
use Rattle.std.proofs.Math.IntN.{+ℤ_idr}
use Rattle.std.proofs.Math.Seq.{drop-cons}
use Rattle.std.proofs.lemmas.Bool.{not-false}
use Rattle.std.proofs.lemmas.Bool.Decides.{Decides-int_eq, nat_tests}
use Rattle.std.proofs.lemmas.List.{map-append, take_more}
use Rattle.std.proofs.lemmas.List.Elements.{All-nil, All-cons}
use Rattle.book_commodity.specs.Rules.{AllKept, ReportsFirst, first_broken}
use Rattle.book_commodity.specs.Table.{value_of}
use Rattle.book_commodity.proofs.RuleLemmas.{first-past, first-here, kept_back, kept_both, kept_front, kept_of}
use Rattle.book_commodity.proofs.RuleLemmas.{none_broken, not-broken, reports-past}
use Rattle.book_commodity.specs.declared.commodity.Commodity.{Commodity}
use Rattle.book_accounts.specs.declared.account.Account.{Account}
use Rattle.book_splits.specs.Balance.{total, sum_of_values}
use Rattle.book_splits.specs.Check.{HasAmounts, IsSound}
use Rattle.book_splits.specs.Check.{currency_rules, rules_of_splits, split_count, split_rules, txn_rules, unbalanced}
use Rattle.book_splits.specs.declared.rule.TxnRule.{TxnRule}
use Rattle.book_splits.specs.declared.split.Split.{Split}
use Rattle.book_splits.specs.declared.transaction.Txn.{Txn}
use Rattle.book_splits.proofs.BalanceLemmas.{total-append}

-- the first broken rule of a split is that of all splits, where those before it break none
pub first-of_splits :
    (accounts : List (ℕ × Account)) (currency : ℕ) (splits : List Split) (place : ℕ) (split : Split) (rule : TxnRule)
    → place < length splits
    → split ≡ get_or splits place split
    → first_broken (rules_of_splits accounts currency 0 splits) ≡ first_broken
    (rules_of_splits accounts currency place (drop place splits))
    → first_broken (split_rules currency place split (value_of split.account accounts)) ≡ Some rule
    → first_broken (rules_of_splits accounts currency 0 splits) ≡ Some rule
first-of_splits accounts currency splits place split rule below is before here =
    let rest : List Split = drop (suc place) splits in
    let next : drop place splits ≡ split ∷ rest = drop-cons splits place split below
    ∙ ap (λ (s : Split). s ∷ rest) (sym is) in
    before
    ∙ ap (λ (l : List Split). first_broken (rules_of_splits accounts currency place l)) next
    ∙ first-here (split_rules currency place split (value_of split.account accounts))
    (rules_of_splits accounts currency (place + 1) rest) rule here

-- a split that keeps its rules has amounts within the limit
amounts-of_split :
    (currency place : ℕ) (split : Split) (account : Option Account) → AllKept (split_rules currency place split account)
    → HasAmounts split
amounts-of_split currency place split None kept = absurd (let broken = kept.0 in cc)
amounts-of_split currency place split (Some account) kept =
    let within = not-broken _ _ kept.1.0 in (grind (arith, nat_tests, within), grind (arith, nat_tests, within))

-- and so have all splits that keep theirs
amounts_of :
    (accounts : List (ℕ × Account)) (currency place : ℕ) (splits : List Split)
    → AllKept (rules_of_splits accounts currency place splits) → All HasAmounts splits
amounts_of accounts currency place [] kept = All-nil HasAmounts
amounts_of accounts currency place (split ∷ more) kept =
    let rules = split_rules currency place split (value_of split.account accounts) in
    let rest = rules_of_splits accounts currency (place + 1) more in
    All-cons HasAmounts split more
    (amounts-of_split currency place split (value_of split.account accounts) (kept_front rules rest kept))
    (amounts_of accounts currency (place + 1) more (kept_back rules rest kept))

-- The rules of a transaction by their parts.
pub record KeepsCheck (commodities : List (ℕ × Commodity)) (accounts : List (ℕ × Account)) (txn : Txn) : Type 0 where
  pub count : split_count txn.splits ≡ None
  pub currency : AllKept (currency_rules txn.currency (value_of txn.currency commodities))
  pub splits : AllKept (rules_of_splits accounts txn.currency 0 txn.splits)
  pub balance : unbalanced txn.splits ≡ None

pub parts_of :
    (commodities : List (ℕ × Commodity)) (accounts : List (ℕ × Account)) (txn : Txn)
    → first_broken (txn_rules commodities accounts txn) ≡ None → KeepsCheck commodities accounts txn
parts_of commodities accounts txn e =
    let currency = currency_rules txn.currency (value_of txn.currency commodities) in
    let splits = rules_of_splits accounts txn.currency 0 txn.splits in
    let balance = unbalanced txn.splits ∷ [] in
    let kept = kept_of (txn_rules commodities accounts txn) e in
    let rest = kept_back currency (splits ++ balance) kept.1 in
    record {
      count = kept.0;
      currency = kept_front currency (splits ++ balance) kept.1;
      splits = kept_front splits balance rest;
      balance = (kept_back splits balance rest).0;
    }

pub none_of_parts :
    (commodities : List (ℕ × Commodity)) (accounts : List (ℕ × Account)) (txn : Txn)
    → KeepsCheck commodities accounts txn → first_broken (txn_rules commodities accounts txn) ≡ None
none_of_parts commodities accounts txn is =
    let currency = currency_rules txn.currency (value_of txn.currency commodities) in
    let splits = rules_of_splits accounts txn.currency 0 txn.splits in
    let balance = unbalanced txn.splits ∷ [] in
    none_broken (txn_rules commodities accounts txn)
    (is.count, kept_both currency (splits ++ balance) is.currency (kept_both splits balance is.splits (is.balance, tt)))

-- a transaction that breaks no rule is balanced and within its limits
pub sound_of :
    (commodities : List (ℕ × Commodity)) (accounts : List (ℕ × Account)) (txn : Txn)
    → first_broken (txn_rules commodities accounts txn) ≡ None → IsSound txn.splits
sound_of commodities accounts txn e =
    let is = parts_of commodities accounts txn e in
    let count = not-broken _ _ is.count in
    let balance = not-broken _ _ is.balance in
    record {
      balanced = (Decides-int_eq (sum_of_values txn.splits) (pos 0)).0 (not-false _ balance);
      amounts = amounts_of accounts txn.currency 0 txn.splits is.splits;
      some = grind (arith, nat_tests, count);
      few = grind (arith, nat_tests, count);
    }

-- where a check reports that no rule is broken, the splits are sound
pub sound-kept :
    {T : Type 0} (commodities : List (ℕ × Commodity)) (accounts : List (ℕ × Account)) (txn : Txn)
    (result : Result T TxnRule) → ReportsFirst (txn_rules commodities accounts txn) result
    → OnOk result (IsSound txn.splits)
sound-kept commodities accounts txn (Ok x) h = sound_of commodities accounts txn h
sound-kept commodities accounts txn (Err rule) h = tt

-- the rules of a transaction whose splits break the first
pub first-of_txn :
    (commodities : List (ℕ × Commodity)) (accounts : List (ℕ × Account)) (txn : Txn) (splits : List Split)
    (rule : TxnRule)
    → splits ≡ txn.splits
    → first_broken (split_count splits ∷ []) ≡ None
    → first_broken (currency_rules txn.currency (value_of txn.currency commodities)) ≡ None
    → first_broken (rules_of_splits accounts txn.currency 0 splits) ≡ Some rule
    → first_broken (txn_rules commodities accounts txn) ≡ Some rule
first-of_txn commodities accounts txn splits rule same count currency here =
    let currencies = currency_rules txn.currency (value_of txn.currency commodities) in
    let Here : List Split → Type 0 =
    λ given. first_broken (split_count given
    ∷ (currencies ++ (rules_of_splits accounts txn.currency 0 given ++ (unbalanced given ∷ [])))) ≡ Some rule in
    let rest = rules_of_splits accounts txn.currency 0 splits ++ (unbalanced splits ∷ []) in
    subst Here same
    (first-past (split_count splits ∷ []) (currencies ++ rest) count
    ∙ first-past currencies rest currency
    ∙ first-here (rules_of_splits accounts txn.currency 0 splits) (unbalanced splits ∷ []) rule here)

-- where the other rules of a transaction are kept, what a check reports of its balance is what it reports of all
pub reports-balance :
    {T : Type 0} (commodities : List (ℕ × Commodity)) (accounts : List (ℕ × Account)) (txn : Txn)
    (splits : List Split) (result : Result T TxnRule)
    → splits ≡ txn.splits
    → first_broken (split_count splits ∷ []) ≡ None
    → first_broken (currency_rules txn.currency (value_of txn.currency commodities)) ≡ None
    → first_broken (rules_of_splits accounts txn.currency 0 splits) ≡ None
    → ReportsFirst (unbalanced splits ∷ []) result
    → ReportsFirst (txn_rules commodities accounts txn) result
reports-balance {T} commodities accounts txn splits result same count currency kept reported =
    let currencies = currency_rules txn.currency (value_of txn.currency commodities) in
    let Reported : List Split → Type 0 =
    λ given. ReportsFirst (split_count given
    ∷ (currencies ++ (rules_of_splits accounts txn.currency 0 given ++ (unbalanced given ∷ [])))) result in
    let balance = unbalanced splits ∷ [] in
    let rest = rules_of_splits accounts txn.currency 0 splits in
    subst Reported same
    (reports-past (split_count splits ∷ []) (currencies ++ (rest ++ balance)) result count
    (reports-past currencies (rest ++ balance) result currency
    (reports-past rest balance result kept reported)))

pub sum_of_values-take :
    (splits : List Split) (i : ℕ) (d : Split) → i < length splits
    → sum_of_values (take (i + 1) splits) ≡ sum_of_values (take i splits) +ℤ (get_or splits i d).value
sum_of_values-take splits i d below =
    ap sum_of_values (take_more splits i d below)
    ∙ ap total (map-append (λ split. split.value) (take i splits) (get_or splits i d ∷ []))
    ∙ total-append (map (λ split. split.value) (take i splits)) ((get_or splits i d).value ∷ [])
    ∙ ap (λ z. sum_of_values (take i splits) +ℤ z) (+ℤ_idr (get_or splits i d).value)
