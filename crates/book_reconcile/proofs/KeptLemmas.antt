-- A split that is found by its number is the only one with it, where no two splits have one number.
use Rattle.std.proofs.Common.{◌≡◌, ℕ, zero, suc, ◌+◌, ◌<◌, ◌==◌, Bool, true, false, ◌&&◌, ◌||◌, not, List, []}
use Rattle.std.proofs.Common.{◌∷◌, ◌++◌}
use Rattle.std.proofs.Common.{length, take, drop, get_or, refl, sym, ap, ◌∙◌, arith, eq-eqb, subst}
use Rattle.std.proofs.lemmas.Bool.{eqb-true}
use Rattle.std.proofs.lemmas.List.{take-append-drop}
use Rattle.std.proofs.lemmas.List.Elements.{Contains-append_left, Contains-append_right}
use Rattle.std.specs.List.{list_any}
use Rattle.std.specs.Prelude.{Contains}
use Rattle.book_commodity.proofs.ListLemmas.{from-item}
use Rattle.book_splits.specs.Balance.{splits_of}
use Rattle.book_splits.specs.TransactionRules.{are_once, is_among, numbers_of}
use Rattle.book_splits.proofs.BalanceLemmas.{splits_of-append}
use Rattle.book_splits.specs.declared.reconciliation.MarkedSplit.{MarkedSplit}
use Rattle.book_splits.specs.declared.split.Split.{Split}
use Rattle.book_splits.specs.declared.transaction.Txn.{Txn}
use Rattle.book_reconcile.specs.Reconciliation.{is_kept_by}

-- a split's number is among those of the splits
among : (splits : List Split) (s : Split) → Contains splits s → is_among (numbers_of splits) s.id ≡ true
among [] s has = absurd (omega (arith, has.1))
among (x ∷ xs) s (zero, lt, is) =
    ap (λ (t : Split). (t.id == s.id) || is_among (numbers_of xs) s.id) is
    ∙ ap (λ (b : Bool). b || is_among (numbers_of xs) s.id) (eq-eqb s.id s.id refl)
among (x ∷ xs) s (suc k, lt, is) =
    by_first (x.id == s.id) (is_among (numbers_of xs) s.id) (among xs s (k, omega (arith, lt), is))
  where
    by_first : (b c : Bool) → c ≡ true → (b || c) ≡ true
    by_first true c e = refl
    by_first false c e = e

-- where no split has the number, none passes a test that asks for it
none-with : (p : Split → Bool) (n : ℕ) (splits : List Split) → ((t : Split) → p t ≡ true → t.id ≡ n)
    → is_among (numbers_of splits) n ≡ false → list_any p splits ≡ false
none-with p n [] asks none = refl
none-with p n (x ∷ xs) asks none =
    both (p x) (x.id == n) (is_among (numbers_of xs) n) refl (λ e. eq-eqb x.id n (asks x e)) none
    (none-with p n xs asks)
  where
    both : (a b c : Bool) → p x ≡ a → (p x ≡ true → b ≡ true) → (b || c) ≡ false
        → (c ≡ false → list_any p xs ≡ false) → list_any p (x ∷ xs) ≡ false
    both true b c is own none more = absurd (let e = own is in cc)
    both false true c is own none more = absurd cc
    both false false c is own none more = ap (λ (t : Bool). t || list_any p xs) is ∙ more none

-- where no two have one number, whether a split passes such a test is whether the one with the number does
pub only-one : (p : Split → Bool) (n : ℕ) (splits : List Split) (s : Split) → ((t : Split) → p t ≡ true → t.id ≡ n)
    → are_once (numbers_of splits) ≡ true → Contains splits s → s.id ≡ n → list_any p splits ≡ p s
only-one p n [] s asks once has own = absurd (omega (arith, has.1))
only-one p n (x ∷ xs) s asks once (zero, lt, is) own =
    ap (λ (b : Bool). p x || b) (none-with p n xs asks (ap (is_among (numbers_of xs)) (sym (ap (λ (t : Split). t.id) is
    ∙ own)) ∙ first (is_among (numbers_of xs) x.id) (are_once (numbers_of xs)) once))
    ∙ last (p x) ∙ ap p is
  where
    first : (a b : Bool) → (not a && b) ≡ true → a ≡ false
    first true b e = absurd cc
    first false b e = refl

    last : (a : Bool) → (a || false) ≡ a
    last true = refl
    last false = refl
only-one p n (x ∷ xs) s asks once (suc k, lt, is) own =
    let has : Contains xs s = (k, omega (arith, lt), is) in
    ap (λ (b : Bool). b || list_any p xs) (first (p x) refl has)
    ∙ only-one p n xs s asks (rest (is_among (numbers_of xs) x.id) (are_once (numbers_of xs)) once) has own
  where
    rest : (a b : Bool) → (not a && b) ≡ true → b ≡ true
    rest true b e = absurd cc
    rest false b e = e

    apart : (a b : Bool) → (not a && b) ≡ true → a ≡ true → ⊥
    apart true b e f = cc
    apart false b e f = cc

    first : (a : Bool) → p x ≡ a → Contains xs s → p x ≡ false
    first false e has = e
    first true e has = absurd (apart (is_among (numbers_of xs) x.id) (are_once (numbers_of xs)) once
        (ap (is_among (numbers_of xs)) (asks x e ∙ sym own) ∙ among xs s has))

-- a split of a transaction is one of the transactions'
pub contains-of : (ts : List (ℕ × Txn)) (i : ℕ) (t : ℕ × Txn) (s : Split) → i < length ts → t ≡ get_or ts i t
    → Contains t.1.splits s → Contains (splits_of ts) s
contains-of ts i t s below is has =
    let parts : splits_of ts ≡ splits_of (take i ts) ++ (t.1.splits ++ splits_of (drop (i + 1) ts)) =
    ap splits_of (sym (take-append-drop i ts)) ∙ splits_of-append (take i ts) (drop i ts)
    ∙ ap (λ es. splits_of (take i ts) ++ splits_of es) (from-item ts i t below is) in
    let there : Contains (splits_of (take i ts) ++ (t.1.splits ++ splits_of (drop (i + 1) ts))) s =
    Contains-append_right (splits_of (take i ts)) (t.1.splits ++ splits_of (drop (i + 1) ts)) s
    (Contains-append_left t.1.splits (splits_of (drop (i + 1) ts)) s has) in
    subst (λ (l : List Split). Contains l s) (sym parts) there

-- the split that a reconciliation kept has the number of the marked one
pub asks-number : (number account : ℕ) (m : MarkedSplit) (t : Split) → is_kept_by number account m t ≡ true
    → t.id ≡ m.split
asks-number number account m t e = eqb-true t.id m.split (first (t.id == m.split) _ e)
  where
    first : (a b : Bool) → (a && b) ≡ true → a ≡ true
    first true b e = refl
    first false b e = e
