-- The rows of a register are within the limits, where the splits of the transactions are.
use Rattle.std.proofs.Common.{ℕ, suc, ◌≡◌, ◌+◌, ◌≤◌, true, false, if◌then◌else◌, cond, List, [], ◌∷◌, All}
use Rattle.std.proofs.Common.{length, refl, ap, ◌∙◌, arith}
use Rattle.std.proofs.lemmas.List.{length-append}
use Rattle.std.proofs.lemmas.List.Elements.{All-append, All-cons, All-head, All-nil, All-tail}
use Rattle.book_commodity.proofs.ListLemmas.{all_back, all_front}
use Rattle.book_splits.specs.Balance.{counts_on, splits_of}
use Rattle.book_splits.specs.Check.{HasAmounts}
use Rattle.book_splits.specs.declared.split.Split.{Split}
use Rattle.book_splits.specs.declared.transaction.Txn.{Txn}
use Rattle.book_register.specs.Register.{key_of, precedes}
use Rattle.book_register.specs.declared.entry.Entry.{Entry}
use Rattle.book_ledger.specs.Ledger.{register_of, row_of, rows_from, rows_on, sorted, with_row}
use Rattle.book_finish.specs.Kept.{AreWithinLimits, IsSmall}

small-from : (account number : ℕ) (t : Txn) (place : ℕ) (splits : List Split) → All HasAmounts splits
    → All IsSmall (rows_from account number t place splits)
small-from account number t place [] all = All-nil IsSmall
small-from account number t place (s ∷ splits) all =
    let row = row_of number t place s in
    let later = rows_from account number t (place + 1) splits in
    let rest = small-from account number t (place + 1) splits (All-tail HasAmounts s splits all) in
    elim (counts_on account s) as (λ b. All IsSmall (if b then row ∷ later else later)) [
      | true ↦ All-cons IsSmall row later (All-head HasAmounts s splits all).1 rest
      | false ↦ rest
    ]

small-on : (account : ℕ) (ts : List (ℕ × Txn)) → All HasAmounts (splits_of ts) → All IsSmall (rows_on account ts)
small-on account [] all = All-nil IsSmall
small-on account (e ∷ es) all =
    All-append IsSmall (rows_from account e.0 e.1 0 e.1.splits) (rows_on account es)
    (small-from account e.0 e.1 0 e.1.splits (all_front HasAmounts e.1.splits (splits_of es) all))
    (small-on account es (all_back HasAmounts e.1.splits (splits_of es) all))

few-from : (account number : ℕ) (t : Txn) (place : ℕ) (splits : List Split)
    → length (rows_from account number t place splits) ≤ length splits
few-from account number t place [] = omega arith
few-from account number t place (s ∷ splits) =
    let row = row_of number t place s in
    let later = rows_from account number t (place + 1) splits in
    let rest = few-from account number t (place + 1) splits in
    elim (counts_on account s) as (λ b. length (if b then row ∷ later else later) ≤ suc (length splits)) [
      | true ↦ omega (arith, rest)
      | false ↦ omega (arith, rest)
    ]

few-on : (account : ℕ) (ts : List (ℕ × Txn)) → length (rows_on account ts) ≤ length (splits_of ts)
few-on account [] = omega arith
few-on account (e ∷ es) =
    omega (
      arith,
      length-append (rows_from account e.0 e.1 0 e.1.splits) (rows_on account es),
      length-append e.1.splits (splits_of es),
      few-from account e.0 e.1 0 e.1.splits,
      few-on account es,
    )

-- the same rows in another order are so too
small-with : (row : Entry) (rows : List Entry) → IsSmall row → All IsSmall rows → All IsSmall (with_row row rows)
small-with row [] small all = All-cons IsSmall row [] small all
small-with row (first ∷ more) small all =
    elim (precedes (key_of first) (key_of row)) as
    (λ t. All IsSmall (cond t (first ∷ with_row row more) (row ∷ first ∷ more))) [
      | true ↦ All-cons IsSmall first (with_row row more) (All-head IsSmall first more all)
          (small-with row more small (All-tail IsSmall first more all))
      | false ↦ All-cons IsSmall row (first ∷ more) small all
    ]

small-sorted : (rows : List Entry) → All IsSmall rows → All IsSmall (sorted rows)
small-sorted [] all = all
small-sorted (row ∷ rows) all =
    small-with row (sorted rows) (All-head IsSmall row rows all) (small-sorted rows (All-tail IsSmall row rows all))

length-with : (row : Entry) (rows : List Entry) → length (with_row row rows) ≡ suc (length rows)
length-with row [] = refl
length-with row (first ∷ more) =
    elim (precedes (key_of first) (key_of row)) as
    (λ t. length (cond t (first ∷ with_row row more) (row ∷ first ∷ more)) ≡ suc (suc (length more))) [
      | true ↦ ap suc (length-with row more)
      | false ↦ refl
    ]

length-sorted : (rows : List Entry) → length (sorted rows) ≡ length rows
length-sorted [] = refl
length-sorted (row ∷ rows) = length-with row (sorted rows) ∙ ap suc (length-sorted rows)

pub within-limits : (account : ℕ) (ts : List (ℕ × Txn)) → All HasAmounts (splits_of ts)
    → length (splits_of ts) ≤ 1000000 → AreWithinLimits (register_of account ts)
within-limits account ts small few =
    let same = length-sorted (rows_on account ts) in
    let fewer = few-on account ts in
    record { few = omega (arith, same, fewer, few); small = small-sorted (rows_on account ts) (small-on account ts small) }
