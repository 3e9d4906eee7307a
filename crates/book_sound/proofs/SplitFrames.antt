-- Splits of one transaction among the splits of all.
use Rattle.std.proofs.Common.{◌≡◌, ℕ, ◌<◌, ◌==◌, ◌&&◌, ◌||◌, nat_lt, Bool, true, false, cond, if◌then◌else◌, All, List}
use Rattle.std.proofs.Common.{[], ◌∷◌, ◌++◌, Some, find, refl, sym, ap, subst, ◌∙◌, arith}
use Rattle.std.specs.Option.{option_or}
use Rattle.std.proofs.lemmas.Bool.{eqb-true, or_parts}
use Rattle.std.proofs.lemmas.Bool.Decides.{nat_tests}
use Rattle.std.proofs.lemmas.List.Elements.{All-head, All-tail}
use Rattle.std.proofs.lemmas.List.Folds.{find-append}
use Rattle.book_commodity.specs.Rules.{stands_before}
use Rattle.book_commodity.specs.Table.{AllAbove, Rises, value_of, with_entry, without_entry}
use Rattle.book_commodity.proofs.TableLemmas.{above_less, gap_without}
use Rattle.book_splits.specs.Balance.{splits_of}
use Rattle.book_splits.specs.TransactionRules.{is_among, numbers_of, share_numbers}
use Rattle.book_splits.specs.declared.split.Split.{Split}
use Rattle.book_splits.specs.declared.transaction.Txn.{Txn}
use Rattle.book_splits.proofs.ReplacedLemmas.{fails_among, with_there}
use Rattle.book_sound.specs.LineRules.{split_among, split_at}

-- ---- the split with a number

-- what is found has the number
pub found_number :
    (id : ℕ) (splits : List Split) (split : Split) → split_among id splits ≡ Some split → split.id ≡ id
found_number id [] split found = absurd cc
found_number id (s ∷ splits) split found =
    let First : Bool → Type 0 = λ t. (s.id == id) ≡ t → cond t (Some s) (split_among id splits) ≡ Some split
    → split.id ≡ id in
    elim (s.id == id) as First [
      | true ↦ λ same here.
          let one : s ≡ split = cc in
          sym (ap (λ (x : Split). x.id) one) ∙ eqb-true s.id id same
      | false ↦ λ other rest. found_number id splits split rest
    ] refl found

-- and what holds of all splits
pub found_holds :
    (P : Split → Type 0) (id : ℕ) (splits : List Split) (split : Split) → All P splits
    → split_among id splits ≡ Some split → P split
found_holds P id [] split all found = absurd cc
found_holds P id (s ∷ splits) split all found =
    let First : Bool → Type 0 = λ t. cond t (Some s) (split_among id splits) ≡ Some split → P split in
    elim (s.id == id) as First [
      | true ↦ λ here.
          let one : s ≡ split = cc in
          subst P one (All-head P s splits all)
      | false ↦ λ rest. found_holds P id splits split (All-tail P s splits all) rest
    ] found

-- and its number is among theirs
pub found_among :
    (id : ℕ) (splits : List Split) (split : Split) → split_among id splits ≡ Some split
    → is_among (numbers_of splits) id ≡ true
found_among id [] split found = absurd cc
found_among id (s ∷ splits) split found =
    let First : Bool → Type 0 = λ t. cond t (Some s) (split_among id splits) ≡ Some split
    → (t || is_among (numbers_of splits) id) ≡ true in
    elim (s.id == id) as First [ true ↦ λ here. refl | false ↦ λ rest. found_among id splits split rest ] found

-- among splits that have the number, the others aren't asked
among_front :
    (id : ℕ) (xs ys : List Split) → is_among (numbers_of xs) id ≡ true
    → split_among id (xs ++ ys) ≡ split_among id xs
among_front id [] ys among = absurd cc
among_front id (x ∷ xs) ys among =
    let First : Bool → Type 0 = λ t. (t || is_among (numbers_of xs) id) ≡ true
    → cond t (Some x) (split_among id (xs ++ ys)) ≡ cond t (Some x) (split_among id xs) in
    elim (x.id == id) as First [ true ↦ λ here. refl | false ↦ λ rest. among_front id xs ys rest ] among

-- splits that don't have it are passed over
among_back :
    (id : ℕ) (xs ys : List Split) → is_among (numbers_of xs) id ≡ false
    → split_among id (xs ++ ys) ≡ split_among id ys
among_back id [] ys none = refl
among_back id (x ∷ xs) ys none =
    let First : Bool → Type 0 = λ t. (t || is_among (numbers_of xs) id) ≡ false
    → cond t (Some x) (split_among id (xs ++ ys)) ≡ split_among id ys in
    elim (x.id == id) as First [ true ↦ λ here. absurd cc | false ↦ λ rest. among_back id xs ys rest ] none

among_behind :
    (id : ℕ) (xs ys zs : List Split) → split_among id ys ≡ split_among id zs
    → split_among id (xs ++ ys) ≡ split_among id (xs ++ zs)
among_behind id xs ys zs same =
    let test = λ (split : Split). split.id == id in
    find-append test xs ys ∙ ap (option_or (find test xs)) same ∙ sym (find-append test xs zs)

-- ---- the split with a number among those of all transactions

pub above_there :
    {T : Type 0} (m k : ℕ) (x : T) (es : List (ℕ × T)) → AllAbove m es → value_of k es ≡ Some x → m < k
above_there m k x [] above there = absurd cc
above_there {T} m k x (e ∷ es) above there =
    let more = above_there m k x es above.1 in
    let first = above.0 in
    grind (arith, nat_tests, first, more, there)

-- a number of a transaction is that of its split, where no transaction before shares a number with it
pub split_of_one :
    (k id : ℕ) (t : Txn) (ts : List (ℕ × Txn)) → Rises ts → value_of k ts ≡ Some t
    → stands_before (share_numbers t) k ts ≡ false → is_among (numbers_of t.splits) id ≡ true
    → split_at id ts ≡ split_among id t.splits
split_of_one k id t [] r there free among = absurd cc
split_of_one k id t (e ∷ ts) r there free among =
    let parts = or_parts (nat_lt e.0 k && share_numbers t e.1) (stands_before (share_numbers t) k ts) free in
    let Here : Bool → Type 0 = λ b. (if b then Some e.1 else value_of k ts) ≡ Some t
    → split_at id (e ∷ ts) ≡ split_among id t.splits in
    elim (k == e.0) as Here [
      | true ↦ λ same.
          let one : e.1 ≡ t = cc in
          let Own : Txn → Type 0 =
          λ x. split_among id (x.splits ++ splits_of ts) ≡ split_among id t.splits in
          subst Own (sym one) (among_front id t.splits (splits_of ts) among)
      | false ↦ λ rest.
          let past : e.0 < k = above_there e.0 k t ts r.0 rest in
          let before : nat_lt e.0 k ≡ true = grind (arith, nat_tests, past) in
          let apart : share_numbers t e.1 ≡ false =
          sym (ap (λ (b : Bool). b && share_numbers t e.1) before) ∙ parts.0 in
          let none = fails_among (is_among (numbers_of e.1.splits)) id (numbers_of t.splits) among apart in
          among_back id e.1.splits (splits_of ts) none ∙ split_of_one k id t ts r.1 rest parts.1 among
    ] there

-- a number that none of its splits has is sought among those of the other transactions
pub split_beside :
    (n id : ℕ) (t : Txn) (ts : List (ℕ × Txn)) → Rises ts → is_among (numbers_of t.splits) id ≡ false
    → split_at id (with_entry n t ts) ≡ split_at id (without_entry n ts)
split_beside n id t [] r none = among_back id t.splits [] none
split_beside n id t (e ∷ ts) r none =
    let Less : Bool → Type 0 = λ b. nat_lt n e.0 ≡ b
    → split_at id (if b then (n, t) ∷ e ∷ ts else (if n == e.0 then (n, t) ∷ ts else e ∷ with_entry n t ts))
    ≡ split_at id (without_entry n (e ∷ ts)) in
    let Same : Bool → Type 0 = λ b. split_at id (if b then (n, t) ∷ ts else e ∷ with_entry n t ts)
    ≡ split_at id (if b then ts else e ∷ without_entry n ts) in
    elim (nat_lt n e.0) as Less [
      | true ↦ λ less.
          let below : n < e.0 = grind (arith, nat_tests, less) in
          let left = gap_without n (e ∷ ts) 0 (below, above_less n e.0 ts (omega (arith, below)) r.0) in
          among_back id t.splits (splits_of (e ∷ ts)) none ∙ sym (ap (split_at id) left)
      | false ↦ λ not_less. elim (n == e.0) as Same [
        | true ↦ among_back id t.splits (splits_of ts) none
        | false ↦ among_behind id e.1.splits (splits_of (with_entry n t ts)) (splits_of (without_entry n ts))
            (split_beside n id t ts r.1 none)
      ]
    ] refl

-- the same of a transaction that stands there
pub split_past :
    (n id : ℕ) (t : Txn) (ts : List (ℕ × Txn)) → Rises ts → value_of n ts ≡ Some t
    → is_among (numbers_of t.splits) id ≡ false → split_at id ts ≡ split_at id (without_entry n ts)
split_past n id t ts r there none =
    ap (split_at id) (sym (with_there n t ts r there)) ∙ split_beside n id t ts r none
