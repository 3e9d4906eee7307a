-- The splits and their numbers where a transaction is put or taken, and where another stands in the place of one.
use Rattle.std.proofs.Common.{◌≡◌, ℕ, ◌<◌, ◌≤◌, ◌==◌, nat_lt, ◌||◌, ◌⊎◌}
use Rattle.std.proofs.Common.{inl, inr, Bool, true, false, All, List, [], ◌∷◌}
use Rattle.std.proofs.Common.{Some, if◌then◌else◌, refl, sym, ap, subst, ◌∙◌, arith}
use Rattle.std.specs.List.{list_any}
use Rattle.std.proofs.lemmas.Bool.{eqb-true, ne_eqb, or_from, or_parts}
use Rattle.std.proofs.lemmas.Bool.Decides.{nat_tests}
use Rattle.std.proofs.lemmas.List.Elements.{All-append, All-nil, All-cons, All-head, All-tail}
use Rattle.book_commodity.specs.Table.{Rises, value_of, with_entry, without_entry}
use Rattle.book_commodity.proofs.ListLemmas.{all_back, all_front}
use Rattle.book_commodity.proofs.TableLemmas.{above_less, above_value}
use Rattle.book_splits.specs.Balance.{splits_of}
use Rattle.book_splits.specs.TransactionRules.{is_among, numbers_of}
use Rattle.book_splits.specs.declared.split.Split.{Split}
use Rattle.book_splits.specs.declared.transaction.Txn.{Txn}

-- ---- the splits of a table

-- what holds of all splits holds of those of one transaction,
pub all_of_one :
    (P : Split → Type 0) (n : ℕ) (t : Txn) (ts : List (ℕ × Txn)) → value_of n ts ≡ Some t → All P (splits_of ts)
    → All P t.splits
all_of_one P n t [] there all = absurd cc
all_of_one P n t (e ∷ ts) there all =
    let Here : Bool → Type 0 = λ b. (if b then Some e.1 else value_of n ts) ≡ Some t → All P t.splits in
    elim (n == e.0) as Here [
      | true ↦ λ same.
          let one : e.1 ≡ t = cc in
          subst (λ (x : Txn). All P x.splits) one (all_front P e.1.splits (splits_of ts) all)
      | false ↦ λ more. all_of_one P n t ts more (all_back P e.1.splits (splits_of ts) all)
    ] there

-- of those with one taken,
pub all_splits_without :
    (P : Split → Type 0) (n : ℕ) (ts : List (ℕ × Txn)) → All P (splits_of ts) → All P (splits_of (without_entry n ts))
all_splits_without P n [] all = all
all_splits_without P n (e ∷ ts) all =
    let front = all_front P e.1.splits (splits_of ts) all in
    let back = all_back P e.1.splits (splits_of ts) all in
    elim (n == e.0) as (λ (b : Bool). All P (splits_of (if b then ts else e ∷ without_entry n ts))) [
      | true ↦ back
      | false ↦ All-append P e.1.splits (splits_of (without_entry n ts)) front (all_splits_without P n ts back)
    ]

-- and of those with one put, where it holds of its splits
pub all_splits_with :
    (P : Split → Type 0) (n : ℕ) (new : Txn) (ts : List (ℕ × Txn)) → All P new.splits → All P (splits_of ts)
    → All P (splits_of (with_entry n new ts))
all_splits_with P n new [] own all = All-append P new.splits [] own (All-nil P)
all_splits_with P n new (e ∷ ts) own all =
    let front = all_front P e.1.splits (splits_of ts) all in
    let back = all_back P e.1.splits (splits_of ts) all in
    let later = all_splits_with P n new ts own back in
    let Less : Bool → Type 0 = λ b. All P (splits_of (if b then (n, new) ∷ e ∷ ts
    else (if n == e.0 then (n, new) ∷ ts else e ∷ with_entry n new ts))) in
    let Same : Bool → Type 0 = λ b. All P (splits_of (if b then (n, new) ∷ ts else e ∷ with_entry n new ts)) in
    elim (nat_lt n e.0) as Less [
      | true ↦ All-append P new.splits (splits_of (e ∷ ts)) own all
      | false ↦ elim (n == e.0) as Same [
        | true ↦ All-append P new.splits (splits_of ts) own back
        | false ↦ All-append P e.1.splits (splits_of (with_entry n new ts)) front later
      ]
    ]

-- ---- a transaction in the place of one

-- A number is one of these, or not below the limit.
abbrev pub IsFrom : ℕ → List ℕ → ℕ → Type 0
IsFrom limit olds m = (is_among olds m ≡ true) ⊎ (limit ≤ m)

-- a number of the list passes no test that none of the list passes
pub fails_among :
    (test : ℕ → Bool) (m : ℕ) (olds : List ℕ) → is_among olds m ≡ true → list_any test olds ≡ false → test m ≡ false
fails_among test m [] among none = absurd cc
fails_among test m (n ∷ olds) among none =
    let parts = or_parts (test n) (list_any test olds) none in
    let Here : Bool → Type 0 = λ b. (n == m) ≡ b → (b || is_among olds m) ≡ true → test m ≡ false in
    elim (n == m) as Here [
      | true ↦ λ same rest. ap test (sym (eqb-true n m same)) ∙ parts.0
      | false ↦ λ other rest. fails_among test m olds rest parts.1
    ] refl among

-- a number below the limit that is none of these is none of those that come from them
pub not_among_from :
    (limit m : ℕ) (olds news : List ℕ) → m < limit → is_among olds m ≡ false → All (IsFrom limit olds) news
    → is_among news m ≡ false
not_among_from limit m olds [] below none from = refl
not_among_from limit m olds (n ∷ news) below none from =
    let rest = not_among_from limit m olds news below none (All-tail (IsFrom limit olds) n news from) in
    let first : (n ≡ m) → ⊥ = λ same. elim (All-head (IsFrom limit olds) n news from) [
      | inl among ↦ absurd (let other = ap (is_among olds) same in cc)
      | inr above ↦ absurd (omega (arith, same, above, below))
    ] in
    or_from (n == m) _ (ne_eqb n m first) rest

-- a transaction that shared no number with the old one shares none with the new one
pub shares_none :
    (limit : ℕ) (olds news : List ℕ) (ms : List ℕ) → All (λ (m : ℕ). m < limit) ms → All (IsFrom limit olds) news
    → list_any (is_among olds) ms ≡ false → list_any (is_among news) ms ≡ false
shares_none limit olds news [] below from none = refl
shares_none limit olds news (m ∷ ms) below from none =
    let parts = or_parts (is_among olds m) (list_any (is_among olds) ms) none in
    or_from (is_among news m) _
    (not_among_from limit m olds news (All-head (λ (k : ℕ). k < limit) m ms below) parts.0 from)
    (shares_none limit olds news ms (All-tail (λ (k : ℕ). k < limit) m ms below) from parts.1)

-- no number from the limit on is among smaller ones
pub none_from_limit :
    (limit m : ℕ) (ms : List ℕ) → limit ≤ m → All (λ (k : ℕ). k < limit) ms → is_among ms m ≡ false
none_from_limit limit m [] above below = refl
none_from_limit limit m (k ∷ ms) above below =
    let first = All-head (λ (x : ℕ). x < limit) k ms below in
    or_from (k == m) _ (ne_eqb k m (λ same. absurd (omega (arith, same, first, above))))
    (none_from_limit limit m ms above (All-tail (λ (x : ℕ). x < limit) k ms below))

-- and the other way round
pub none_shared_by :
    (limit : ℕ) (olds news : List ℕ) (ms : List ℕ) → All (λ (m : ℕ). m < limit) ms → All (IsFrom limit olds) news
    → list_any (is_among ms) olds ≡ false → list_any (is_among ms) news ≡ false
none_shared_by limit olds [] ms below from none = refl
none_shared_by limit olds (n ∷ news) ms below from none =
    let first : is_among ms n ≡ false = elim (All-head (IsFrom limit olds) n news from) [
      | inl among ↦ fails_among (is_among ms) n olds among none
      | inr above ↦ none_from_limit limit n ms above below
    ] in
    or_from (is_among ms n) _ first
    (none_shared_by limit olds news ms below (All-tail (IsFrom limit olds) n news from) none)

-- the numbers of splits that are all below the limit
pub numbers_below :
    (limit : ℕ) (splits : List Split) → All (λ (s : Split). s.id < limit) splits
    → All (λ (m : ℕ). m < limit) (numbers_of splits)
numbers_below limit [] below = All-nil (λ (m : ℕ). m < limit)
numbers_below limit (s ∷ splits) below =
    All-cons (λ (m : ℕ). m < limit) s.id (numbers_of splits) (All-head (λ (x : Split). x.id < limit) s splits below)
    (numbers_below limit splits (All-tail (λ (x : Split). x.id < limit) s splits below))

-- what is put where it stands already changes nothing
pub with_there :
    {T : Type 0} (n : ℕ) (v : T) (es : List (ℕ × T)) → Rises es → value_of n es ≡ Some v → with_entry n v es ≡ es
with_there n v [] r there = absurd cc
with_there {T} n v (e ∷ es) r there =
    let none = λ (less : n < e.0). above_value n es (above_less n e.0 es (omega (arith, less)) r.0) in
    let rest = λ (later : value_of n es ≡ Some v). with_there n v es r.1 later in
    grind (arith, nat_tests, there, none, rest)
