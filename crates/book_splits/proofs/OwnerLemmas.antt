-- Whose a split is, as a loop over the transactions finds it out.
use Rattle.std.proofs.Common.{◌≡◌, ℕ, suc, ◌+◌, ◌<◌, ◌≤◌, ◌==◌, Bool, true, false, not, cond, List, [], ◌∷◌, ◌++◌}
use Rattle.std.proofs.Common.{Option, Some, None, is_none, length, drop, map, find, get_or, option_map}
use Rattle.std.proofs.Common.{slice_get, refl, sym, ap, ◌∙◌, ◌&&◌, if◌then◌else◌, subst, eq-eqb, arith}
use Rattle.std.specs.List.{enumerate_from, flat_map, position, position_from}
use Rattle.std.specs.Option.{option_and_then, option_or}
use Rattle.std.proofs.lemmas.Bool.{eqb-true}
use Rattle.std.proofs.lemmas.Iterator.Adapters.{position_from-zero}
use Rattle.std.proofs.lemmas.List.{drop_all}
use Rattle.std.proofs.lemmas.List.Folds.{find-append}
use Rattle.book_commodity.specs.Table.{AllAbove, Rises, value_of}
use Rattle.book_commodity.proofs.ListLemmas.{from-item}
use Rattle.book_commodity.proofs.TableLemmas.{above_value}
use Rattle.book_splits.specs.Balance.{splits_of}
use Rattle.book_splits.specs.Owner.{owner, placed, split_at}
use Rattle.book_splits.specs.TransactionRules.{is_among, numbers_of}
use Rattle.book_splits.specs.declared.split.Split.{Split}
use Rattle.book_splits.specs.declared.transaction.Txn.{Txn}

-- the first of placed splits, counted from n on, stands at the first place from n on
placed-from :
    (id t n : ℕ) (splits : List Split)
    → option_map (λ (at : (ℕ × ℕ) × Split). at.0)
    (find (λ (at : (ℕ × ℕ) × Split). at.1.id == id)
    (map (λ (at : ℕ × Split). ((t, at.0), at.1)) (enumerate_from n splits)))
    ≡ option_map (λ (place : ℕ). (t, place)) (position_from (λ (s : Split). s.id == id) n splits)
placed-from id t n [] = refl
placed-from id t n (s ∷ splits) = grind (arith, placed-from id t (n + 1) splits)

-- that of one transaction
pub owner-one :
    (id : ℕ) (e : ℕ × Txn)
    → option_map (λ (at : (ℕ × ℕ) × Split). at.0) (find (λ (at : (ℕ × ℕ) × Split). at.1.id == id) (placed e))
    ≡ option_map (λ (place : ℕ). (e.0, place)) (position (λ (s : Split). s.id == id) e.1.splits)
owner-one id e =
    placed-from id e.0 0 e.1.splits
    ∙ ap (option_map (λ (place : ℕ). (e.0, place))) (sym (position_from-zero (λ (s : Split). s.id == id) e.1.splits))

mapped-or :
    {X Y : Type 0} (f : X → Y) (o p : Option X)
    → option_map f (option_or o p) ≡ option_or (option_map f o) (option_map f p)
mapped-or f None p = refl
mapped-or f (Some x) p = refl

-- that of a transaction before others
pub owner-cons :
    (id : ℕ) (e : ℕ × Txn) (es : List (ℕ × Txn))
    → owner id (e ∷ es)
    ≡ option_or (option_map (λ (place : ℕ). (e.0, place)) (position (λ (s : Split). s.id == id) e.1.splits))
    (owner id es)
owner-cons id e es =
    ap (option_map (λ (at : (ℕ × ℕ) × Split). at.0))
    (find-append (λ (at : (ℕ × ℕ) × Split). at.1.id == id) (placed e) (flat_map placed es))
    ∙ mapped-or (λ (at : (ℕ × ℕ) × Split). at.0) _ _
    ∙ ap (λ o. option_or o (owner id es)) (owner-one id e)

-- ---- at the transaction that a loop reads
owner-at :
    (id : ℕ) (ts : List (ℕ × Txn)) (i : ℕ) (t : ℕ × Txn) → i < length ts → t ≡ get_or ts i t
    → owner id (drop i ts)
    ≡ option_or (option_map (λ (place : ℕ). (t.0, place)) (position (λ (s : Split). s.id == id) t.1.splits))
    (owner id (drop (i + 1) ts))
owner-at id ts i t below is = ap (owner id) (from-item ts i t below is) ∙ owner-cons id t (drop (i + 1) ts)

-- it has the split
pub owner-here :
    (id : ℕ) (ts : List (ℕ × Txn)) (i : ℕ) (t : ℕ × Txn) (place : ℕ) → i < length ts → t ≡ get_or ts i t
    → position (λ (s : Split). s.id == id) t.1.splits ≡ Some place → owner id (drop i ts) ≡ Some (t.0, place)
owner-here id ts i t place below is found =
    owner-at id ts i t below is
    ∙ ap (λ o. option_or (option_map (λ (p : ℕ). (t.0, p)) o) (owner id (drop (i + 1) ts))) found

-- it doesn't have it
pub owner-later :
    (id : ℕ) (ts : List (ℕ × Txn)) (i : ℕ) (t : ℕ × Txn) → i < length ts → t ≡ get_or ts i t
    → position (λ (s : Split). s.id == id) t.1.splits ≡ None → owner id (drop i ts) ≡ owner id (drop (i + 1) ts)
owner-later id ts i t below is none =
    owner-at id ts i t below is
    ∙ ap (λ o. option_or (option_map (λ (p : ℕ). (t.0, p)) o) (owner id (drop (i + 1) ts))) none

pub owner-end : (id : ℕ) (ts : List (ℕ × Txn)) (i : ℕ) → length ts ≤ i → owner id (drop i ts) ≡ None
owner-end id ts i past = ap (owner id) (drop_all i ts past)

-- ---- what stands where it says
there-from :
    (id n : ℕ) (splits : List Split) (place : ℕ) → position_from (λ (s : Split). s.id == id) n splits ≡ Some place
    → (k : ℕ) × (place ≡ n + k) × (option_map (λ (s : Split). s.id) (slice_get splits k) ≡ Some id)
there-from id n [] place e = absurd cc
there-from id n (s ∷ splits) place e =
    let Here : Bool → Type 0 = λ b. (s.id == id) ≡ b
    → cond b (Some n) (position_from (λ (s : Split). s.id == id) (n + 1) splits) ≡ Some place
    → (k : ℕ) × (place ≡ n + k) × (option_map (λ (s : Split). s.id) (slice_get (s ∷ splits) k) ≡ Some id) in
    elim (s.id == id) as Here [
      | true ↦ λ same found. let first : n ≡ place = cc in (0, omega (arith, first), ap Some (eqb-true s.id id same))
      | false ↦ λ other more.
          let r = there-from id (n + 1) splits place more in (suc r.0, omega (arith, r.1), r.2)
    ] refl e

there :
    (id : ℕ) (splits : List Split) (place : ℕ) → position (λ (s : Split). s.id == id) splits ≡ Some place
    → option_map (λ (s : Split). s.id) (slice_get splits place) ≡ Some id
there id splits place e =
    let r = there-from id 0 splits place (sym (position_from-zero (λ (s : Split). s.id == id) splits) ∙ e) in
    let same : r.0 ≡ place = omega (arith, r.1) in
    subst (λ k. option_map (λ (s : Split). s.id) (slice_get splits k) ≡ Some id) same r.2

-- the number of the split at a place of a transaction that may be absent
abbrev number_at : ℕ × ℕ → Option Txn → Option ℕ
number_at at t =
    option_map (λ (s : Split). s.id) (option_and_then (λ (transaction : Txn). slice_get transaction.splits at.1) t)

there-first :
    (id : ℕ) (e : ℕ × Txn) (es : List (ℕ × Txn)) (at : ℕ × ℕ) (place : ℕ)
    → position (λ (s : Split). s.id == id) e.1.splits ≡ Some place → (e.0, place) ≡ at
    → option_map (λ (s : Split). s.id) (split_at at (e ∷ es)) ≡ Some id
there-first id e es at place found is =
    subst (λ (a : ℕ × ℕ). option_map (λ (s : Split). s.id) (split_at a (e ∷ es)) ≡ Some id) is
    (ap (λ (b : Bool). number_at (e.0, place) (if b then Some e.1 else value_of e.0 es)) (eq-eqb e.0 e.0 refl)
    ∙ there id e.1.splits place found)

there-behind :
    (id : ℕ) (e : ℕ × Txn) (es : List (ℕ × Txn)) (at : ℕ × ℕ) → AllAbove e.0 es
    → option_map (λ (s : Split). s.id) (split_at at es) ≡ Some id
    → option_map (λ (s : Split). s.id) (split_at at (e ∷ es)) ≡ Some id
there-behind id e es at above found =
    let Here : Bool → Type 0 = λ b. (at.0 == e.0) ≡ b
    → number_at at (if b then Some e.1 else value_of at.0 es) ≡ Some id in
    elim (at.0 == e.0) as Here [
      | true ↦ λ same.
          let none : value_of at.0 es ≡ None =
          subst (λ k. value_of k es ≡ None) (sym (eqb-true at.0 e.0 same)) (above_value e.0 es above) in
          let nothing : None ≡ Some id = sym (ap (number_at at) none) ∙ found in absurd cc
      | false ↦ λ other. found
    ] refl

-- the split with the number stands at the place that is found
pub owner-there :
    (id : ℕ) (es : List (ℕ × Txn)) (at : ℕ × ℕ) → Rises es → owner id es ≡ Some at
    → option_map (λ (s : Split). s.id) (split_at at es) ≡ Some id
owner-there id [] at rise e = absurd cc
owner-there id (e ∷ es) at rise is =
    let Here : Option ℕ → Type 0 = λ o. position (λ (s : Split). s.id == id) e.1.splits ≡ o
    → option_or (option_map (λ (place : ℕ). (e.0, place)) o) (owner id es) ≡ Some at
    → option_map (λ (s : Split). s.id) (split_at at (e ∷ es)) ≡ Some id in
    elim (position (λ (s : Split). s.id == id) e.1.splits) as Here [
      | None ↦ λ none later. there-behind id e es at rise.0 (owner-there id es at rise.1 later)
      | Some place ↦ λ found here. let same : (e.0, place) ≡ at = cc in there-first id e es at place found same
    ] refl (sym (owner-cons id e es) ∙ is)

-- ---- where there is none
none-from :
    (id n : ℕ) (splits : List Split)
    → is_none (position_from (λ (s : Split). s.id == id) n splits) ≡ not (is_among (numbers_of splits) id)
none-from id n [] = refl
none-from id n (s ∷ splits) = grind (arith, none-from id (n + 1) splits)

none-more :
    (id : ℕ) (splits : List Split) (more : List Split)
    → not (is_among (numbers_of (splits ++ more)) id)
    ≡ (not (is_among (numbers_of splits) id) && not (is_among (numbers_of more) id))
none-more id [] more = refl
none-more id (s ∷ splits) more = grind (arith, none-more id splits more)

none-or :
    {X Y : Type 0} (f : X → Y) (o : Option X) (p : Option Y)
    → is_none (option_or (option_map f o) p) ≡ (is_none o && is_none p)
none-or f None p = refl
none-or f (Some x) p = refl

-- nothing is found exactly where no split has the number
pub owner-none :
    (id : ℕ) (es : List (ℕ × Txn)) → is_none (owner id es) ≡ not (is_among (numbers_of (splits_of es)) id)
owner-none id [] = refl
owner-none id (e ∷ es) =
    ap is_none (owner-cons id e es)
    ∙ none-or (λ (place : ℕ). (e.0, place)) (position (λ (s : Split). s.id == id) e.1.splits) (owner id es)
    ∙ ap (λ b. b && is_none (owner id es))
    (ap is_none (position_from-zero (λ (s : Split). s.id == id) e.1.splits) ∙ none-from id 0 e.1.splits)
    ∙ ap (λ b. not (is_among (numbers_of e.1.splits) id) && b) (owner-none id es)
    ∙ sym (none-more id e.1.splits (splits_of es))
