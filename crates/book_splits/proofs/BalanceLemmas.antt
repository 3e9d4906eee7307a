-- Laws of sums over splits.
use Rattle.std.proofs.Common.{◌≡◌, ℕ, ℤ, pos, ◌+ℤ◌, ◌==◌, Bool, true, false, if◌then◌else◌, List, [], ◌∷◌, ◌++◌}
use Rattle.std.proofs.Common.{◌<◌, nat_lt, not, All, arith, map, refl, sym, ap, subst}
use Rattle.std.proofs.Common.{◌∙◌, append_assoc, filter}
use Rattle.std.proofs.lemmas.Bool.{eqb-true}
use Rattle.std.proofs.lemmas.Bool.Decides.{nat_tests}
use Rattle.std.proofs.lemmas.List.{append-nil}
use Rattle.std.proofs.Math.IntN.{+ℤ_assoc, +ℤ_comm, +ℤ_idl, +ℤ_idr}
use Rattle.book_commodity.specs.Table.{AllAbove, Rises, with_entry}
use Rattle.book_commodity.proofs.DrawnLemmas.{with_last}
use Rattle.book_commodity.proofs.TableLemmas.{above_less}
use Rattle.book_splits.specs.Balance.{counts_on, total, quantity_on, splits_beside, splits_of}
use Rattle.book_splits.specs.declared.split.Split.{Split}
use Rattle.book_splits.specs.declared.transaction.Txn.{Txn}

pub total-append : (xs ys : List ℤ) → total (xs ++ ys) ≡ total xs +ℤ total ys
total-append [] ys = sym (+ℤ_idl (total ys))
total-append (x ∷ xs) ys = ap (λ z. x +ℤ z) (total-append xs ys) ∙ sym (+ℤ_assoc x (total xs) (total ys))

pub quantity_on-append : (account : ℕ) (xs ys : List Split)
    → quantity_on account (xs ++ ys) ≡ quantity_on account xs +ℤ quantity_on account ys
quantity_on-append account [] ys = sym (+ℤ_idl (quantity_on account ys))
quantity_on-append account (x ∷ xs) ys =
    let P : Bool → Type 0 = λ t.
    total (map (λ split. split.quantity)
    (if t then x ∷ filter (counts_on account) (xs ++ ys) else filter (counts_on account) (xs ++ ys)))
    ≡ total (map (λ split. split.quantity)
    (if t then x ∷ filter (counts_on account) xs else filter (counts_on account) xs)) +ℤ quantity_on account ys in
    elim (counts_on account x) as P [
      | true ↦ ap (λ z. x.quantity +ℤ z) (quantity_on-append account xs ys)
          ∙ sym (+ℤ_assoc x.quantity (quantity_on account xs) (quantity_on account ys))
      | false ↦ quantity_on-append account xs ys
    ]

pub quantity_on-one : (account : ℕ) (split : Split)
    → quantity_on account (split ∷ []) ≡ (if counts_on account split then split.quantity else pos 0)
quantity_on-one account split =
    let P : Bool → Type 0 = λ t. total (map (λ split. split.quantity) (if t then split ∷ [] else []))
    ≡ (if t then split.quantity else pos 0) in
    elim (counts_on account split) as P [ true ↦ +ℤ_idr split.quantity | false ↦ refl ]

pub splits_of-append : (xs ys : List (ℕ × Txn)) → splits_of (xs ++ ys) ≡ splits_of xs ++ splits_of ys
splits_of-append [] ys = refl
splits_of-append (x ∷ xs) ys = ap (λ splits. x.1.splits ++ splits) (splits_of-append xs ys)
    ∙ sym (append_assoc x.1.splits (splits_of xs) (splits_of ys))

pub splits_of-added : (transactions : List (ℕ × Txn)) (entry : ℕ × Txn)
    → splits_of (transactions ++ entry ∷ []) ≡ splits_of transactions ++ entry.1.splits
splits_of-added transactions entry = splits_of-append transactions (entry ∷ [])
    ∙ ap (λ splits. splits_of transactions ++ splits) (append-nil entry.1.splits)

-- the splits of a transaction under a number above all others stand behind those of the others
pub splits_last :
    (n : ℕ) (new : Txn) (ts : List (ℕ × Txn)) → All (λ (e : ℕ × Txn). e.0 < n) ts
    → splits_of (with_entry n new ts) ≡ splits_of ts ++ new.splits
splits_last n new ts below = ap splits_of (with_last n new ts below) ∙ splits_of-added ts (n, new)

-- Where all numbers are above one, none stands under it.
splits_beside-above : (n : ℕ) (ts : List (ℕ × Txn)) → AllAbove n ts → splits_beside n ts ≡ splits_of ts
splits_beside-above n [] above = refl
splits_beside-above n (e ∷ es) above =
    let more = splits_beside-above n es above.1 in
    let P : Bool → Type 0 = λ t. (n == e.0) ≡ t
    → splits_of (if not t then e ∷ filter (λ entry. not (n == entry.0)) es else filter
    (λ entry. not (n == entry.0)) es)
    ≡ e.1.splits ++ splits_of es in
    elim (n == e.0) as P [
      | true ↦ λ is. absurd (let same = eqb-true n e.0 is in omega (arith, same, above.0))
      | false ↦ λ is. ap (λ splits. e.1.splits ++ splits) more
    ] refl

-- The sum does not depend on which come first.
quantity_on-swap : (account : ℕ) (xs ys : List Split) → quantity_on account (xs ++ ys) ≡ quantity_on account (ys ++ xs)
quantity_on-swap account xs ys = quantity_on-append account xs ys
    ∙ +ℤ_comm (quantity_on account xs) (quantity_on account ys) ∙ sym (quantity_on-append account ys xs)

-- With a transaction under a number, an account has what the other transactions and this one give to it.
pub quantity_on-with :
    (account n : ℕ) (transaction : Txn) (ts : List (ℕ × Txn)) → Rises ts
    → quantity_on account (splits_beside n ts ++ transaction.splits)
    ≡ quantity_on account (splits_of (with_entry n transaction ts))
quantity_on-with account n transaction [] rises = ap (quantity_on account) (sym (append-nil transaction.splits))
quantity_on-with account n transaction (e ∷ es) rises =
    let beside : List Split = splits_beside n es in
    let After : List (ℕ × Txn) → ℤ = λ ts. quantity_on account (splits_of ts) in
    let Past : Bool → Type 0 = λ same. (n == e.0) ≡ same
    → quantity_on account (splits_of (if not same then e ∷ filter (λ entry. not (n == entry.0)) es else filter
    (λ entry. not (n == entry.0)) es) ++ transaction.splits)
    ≡ After (if same then (n, transaction) ∷ es else e ∷ with_entry n transaction es) in
    let Before : Bool → Type 0 = λ less. nat_lt n e.0 ≡ less
    → quantity_on account (splits_beside n (e ∷ es) ++ transaction.splits)
    ≡ After (if less then (n, transaction) ∷ e ∷ es else (if n == e.0 then (n, transaction) ∷ es else e
    ∷ with_entry n transaction es)) in
    elim (nat_lt n e.0) as Before [
      | true ↦ λ is.
          let below : n < e.0 = grind (arith, nat_tests, is) in
          let above : AllAbove n (e ∷ es) = (below, above_less n e.0 es (omega (arith, below)) rises.0) in
          ap (λ splits. quantity_on account (splits ++ transaction.splits)) (splits_beside-above n (e ∷ es) above)
          ∙ quantity_on-swap account (splits_of (e ∷ es)) transaction.splits
      | false ↦ λ is.
          elim (n == e.0) as Past [
            | true ↦ λ is.
                let same : n ≡ e.0 = eqb-true n e.0 is in
                let above : AllAbove n es = subst (λ (m : ℕ). AllAbove m es) (sym same) rises.0 in
                ap (λ splits. quantity_on account (splits ++ transaction.splits)) (splits_beside-above n es above)
                ∙ quantity_on-swap account (splits_of es) transaction.splits
            | false ↦ λ is.
                ap (quantity_on account) (append_assoc e.1.splits beside transaction.splits)
                ∙ quantity_on-append account e.1.splits (beside ++ transaction.splits)
                ∙ ap (λ sum. quantity_on account e.1.splits +ℤ sum)
                (quantity_on-with account n transaction es rises.1)
                ∙ sym (quantity_on-append account e.1.splits (splits_of (with_entry n transaction es)))
          ] refl
    ] refl
