-- Sums over the splits of transactions, as loops over them find them.
use Rattle.std.proofs.Common.{◌≡◌, ℕ, ◌+◌, ◌<◌, ◌≤◌, ℤ, pos, ◌+ℤ◌, Bool, true, false, if◌then◌else◌, List, []}
use Rattle.std.proofs.Common.{◌∷◌, ◌++◌}
use Rattle.std.proofs.Common.{length, take, drop, get_or, filter, map, refl, sym, ap, ◌∙◌, arith}
use Rattle.std.proofs.Math.IntN.{+ℤ_idr}
use Rattle.std.proofs.Math.ListN.{length-append}
use Rattle.std.proofs.lemmas.Int.{ints}
use Rattle.std.proofs.lemmas.List.{append-nil, map-append, take-append-drop}
use Rattle.std.proofs.lemmas.List.Elements.{filter-append}
use Rattle.std.proofs.lemmas.List.Concat.{flat_map-append}
use Rattle.std.specs.List.{flat_map}
use Rattle.std.specs.Prelude.{int_le}
use Rattle.book_commodity.proofs.ListLemmas.{take-item}
use Rattle.book_splits.specs.Balance.{IsWithin, splits_of, total}
use Rattle.book_splits.proofs.BalanceLemmas.{splits_of-added, splits_of-append, total-append}
use Rattle.book_splits.specs.declared.reconciliation.MarkedSplit.{MarkedSplit}
use Rattle.book_splits.specs.declared.split.Mark.{Mark}
use Rattle.book_splits.specs.declared.split.Mark.TheVariants.{Cleared}
use Rattle.book_splits.specs.declared.split.Split.{Split}
use Rattle.book_splits.specs.declared.transaction.Txn.{Txn}
use Rattle.book_reconcile.specs.Reconciliation.{balance_with, dated_splits, has_mark, marked, until}

-- ---- what a list and one more give
pub balance-append : (mark : Mark) (account : ℕ) (xs ys : List Split)
    → balance_with mark account (xs ++ ys) ≡ balance_with mark account xs +ℤ balance_with mark account ys
balance-append mark account xs ys =
    let quantity : Split → ℤ = λ split. split.quantity in
    ap (λ splits. total (map quantity splits)) (filter-append (has_mark mark account) xs ys)
    ∙ ap total (map-append quantity (filter (has_mark mark account) xs) (filter (has_mark mark account) ys))
    ∙ total-append (map quantity (filter (has_mark mark account) xs)) (map quantity (filter (has_mark mark account) ys))

until-append : (day : ℤ) (xs ys : List (ℕ × Txn)) → until day (xs ++ ys) ≡ until day xs ++ until day ys
until-append day xs ys = filter-append (λ (entry : ℕ × Txn). int_le entry.1.day day) xs ys

-- ---- at the transaction that a loop reads
-- how many splits the transactions have up to it
pub length-item : (ts : List (ℕ × Txn)) (i : ℕ) (t : ℕ × Txn) → i < length ts → t ≡ get_or ts i t
    → length (splits_of (take (i + 1) ts)) ≡ length (splits_of (take i ts)) + length t.1.splits
length-item ts i t below is =
    ap (λ es. length (splits_of es)) (sym (take-item ts i t below is))
    ∙ ap length (splits_of-added (take i ts) t) ∙ length-append (splits_of (take i ts)) t.1.splits

-- they have no more than all
pub length-first : (ts : List (ℕ × Txn)) (i : ℕ) → length (splits_of (take i ts)) ≤ length (splits_of ts)
length-first ts i =
    let all : length (splits_of ts) ≡ length (splits_of (take i ts)) + length (splits_of (drop i ts)) =
    ap (λ es. length (splits_of es)) (sym (take-append-drop i ts))
    ∙ ap length (splits_of-append (take i ts) (drop i ts))
    ∙ length-append (splits_of (take i ts)) (splits_of (drop i ts)) in
    omega (arith, all)

pub balance-item : (mark : Mark) (account : ℕ) (ts : List (ℕ × Txn)) (i : ℕ) (t : ℕ × Txn) → i < length ts
    → t ≡ get_or ts i t
    → balance_with mark account (splits_of (take (i + 1) ts))
    ≡ balance_with mark account (splits_of (take i ts)) +ℤ balance_with mark account t.1.splits
balance-item mark account ts i t below is =
    ap (λ es. balance_with mark account (splits_of es)) (sym (take-item ts i t below is))
    ∙ ap (balance_with mark account) (splits_of-added (take i ts) t)
    ∙ balance-append mark account (splits_of (take i ts)) t.1.splits

-- one on or before the day is among those until the day
pub until-item : (day : ℤ) (ts : List (ℕ × Txn)) (i : ℕ) (t : ℕ × Txn) → i < length ts → t ≡ get_or ts i t
    → int_le t.1.day day ≡ true → until day (take (i + 1) ts) ≡ until day (take i ts) ++ t ∷ []
until-item day ts i t below is early =
    ap (until day) (sym (take-item ts i t below is)) ∙ until-append day (take i ts) (t ∷ [])
    ∙ ap (λ (b : Bool). until day (take i ts) ++ (if b then t ∷ [] else [])) early

-- and one of a later day isn't
pub until-later : (day : ℤ) (ts : List (ℕ × Txn)) (i : ℕ) (t : ℕ × Txn) → i < length ts → t ≡ get_or ts i t
    → int_le t.1.day day ≡ false → until day (take (i + 1) ts) ≡ until day (take i ts)
until-later day ts i t below is late =
    ap (until day) (sym (take-item ts i t below is)) ∙ until-append day (take i ts) (t ∷ [])
    ∙ ap (λ (b : Bool). until day (take i ts) ++ (if b then t ∷ [] else [])) late
    ∙ append-nil (until day (take i ts))

pub balance-until : (mark : Mark) (account : ℕ) (es : List (ℕ × Txn)) (t : ℕ × Txn)
    → balance_with mark account (splits_of (es ++ t ∷ []))
    ≡ balance_with mark account (splits_of es) +ℤ balance_with mark account t.1.splits
balance-until mark account es t =
    ap (balance_with mark account) (splits_of-added es t) ∙ balance-append mark account (splits_of es) t.1.splits

pub dated-until : (account : ℕ) (es : List (ℕ × Txn)) (t : ℕ × Txn)
    → flat_map (λ (entry : ℕ × Txn). dated_splits account entry.1) (es ++ t ∷ [])
    ≡ flat_map (λ (entry : ℕ × Txn). dated_splits account entry.1) es ++ dated_splits account t.1
dated-until account es t =
    flat_map-append (λ (entry : ℕ × Txn). dated_splits account entry.1) es (t ∷ [])
    ∙ ap (λ rows. flat_map (λ (entry : ℕ × Txn). dated_splits account entry.1) es ++ rows)
    (append-nil (dated_splits account t.1))

-- ---- at the split that a loop reads
pub balance-split : (mark : Mark) (account : ℕ) (splits : List Split) (i : ℕ) (s : Split) → i < length splits
    → s ≡ get_or splits i s
    → balance_with mark account (take (i + 1) splits)
    ≡ balance_with mark account (take i splits) +ℤ balance_with mark account (s ∷ [])
balance-split mark account splits i s below is =
    ap (balance_with mark account) (sym (take-item splits i s below is))
    ∙ balance-append mark account (take i splits) (s ∷ [])

pub balance-one : (mark : Mark) (account : ℕ) (s : Split) → has_mark mark account s ≡ true
    → balance_with mark account (s ∷ []) ≡ s.quantity
balance-one mark account s has =
    ap (λ (b : Bool). total (map (λ split. split.quantity) (if b then s ∷ [] else []))) has ∙ +ℤ_idr s.quantity

pub balance-none : (mark : Mark) (account : ℕ) (s : Split) → has_mark mark account s ≡ false
    → balance_with mark account (s ∷ []) ≡ pos 0
balance-none mark account s has =
    ap (λ (b : Bool). total (map (λ split. split.quantity) (if b then s ∷ [] else []))) has

-- ---- the splits that are marked have the sum of the cleared ones
quantities-of : (account : ℕ) (day : ℤ) (splits : List Split)
    → map (λ (m : MarkedSplit). m.quantity)
    (map (λ (row : ℤ × MarkedSplit). row.1) (map (λ (split : Split). (day, marked split)) splits))
    ≡ map (λ (split : Split). split.quantity) splits
quantities-of account day [] = refl
quantities-of account day (s ∷ splits) = ap (λ l. s.quantity ∷ l) (quantities-of account day splits)

pub dated-total : (account : ℕ) (ts : List (ℕ × Txn))
    → total (map (λ (m : MarkedSplit). m.quantity) (map (λ (row : ℤ × MarkedSplit). row.1)
    (flat_map (λ (entry : ℕ × Txn). dated_splits account entry.1) ts)))
    ≡ balance_with Cleared account (splits_of ts)
dated-total account [] = refl
dated-total account (t ∷ ts) =
    let row_of : ℤ × MarkedSplit → MarkedSplit = λ row. row.1 in
    let quantity : MarkedSplit → ℤ = λ m. m.quantity in
    let here = dated_splits account t.1 in
    let rest = flat_map (λ (entry : ℕ × Txn). dated_splits account entry.1) ts in
    ap (λ l. total (map quantity l)) (map-append row_of here rest)
    ∙ ap total (map-append quantity (map row_of here) (map row_of rest))
    ∙ total-append (map quantity (map row_of here)) (map quantity (map row_of rest))
    ∙ ap (λ z. z +ℤ total (map quantity (map row_of rest)))
    (ap total (quantities-of account t.1.day (filter (has_mark Cleared account) t.1.splits)))
    ∙ ap (λ z. balance_with Cleared account t.1.splits +ℤ z) (dated-total account ts)
    ∙ sym (balance-append Cleared account t.1.splits (splits_of ts))

-- ---- the sums of two parts are within the bound of the whole
pub within-sum : (m k n : ℕ) (s t : ℤ) → IsWithin m s → IsWithin k t → n ≡ m + k → IsWithin n (s +ℤ t)
within-sum m k n s t h g is =
    (omega (arith, ints, h.0, h.1, g.0, g.1, is), omega (arith, ints, h.0, h.1, g.0, g.1, is))

pub within-more : (m n : ℕ) (s : ℤ) → IsWithin m s → m ≤ n → IsWithin n s
within-more m n s h le = (omega (arith, ints, h.0, le), omega (arith, ints, h.1, le))
