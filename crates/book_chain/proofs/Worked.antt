-- Worked rows: an account 3 that is reconciled at the end of January at 800.00, and at the end of February at 850.00.
-- Days count from 1970-01-01, so that 19723 is 2024-01-01, 19753 is 2024-01-31, 19760 is 2024-02-07 and 19782 is
-- 2024-02-29. Account 4 stands against it.
use Rattle.std.proofs.Common.{◌≡◌, ℕ, ◌≤◌, ◌==◌, ℤ, pos, negsuc, Bool, true, false, if◌then◌else◌, List, [], ◌∷◌}
use Rattle.std.proofs.Common.{Option, Some, None, refl, sym, subst, arith}
use Rattle.std.proofs.lemmas.Bool.{eqb-true}
use Rattle.std.proofs.lemmas.Int.{ints}
use Rattle.book_commodity.specs.Table.{value_of}
use Rattle.book_splits.specs.declared.reconciliation.MarkedSplit.{MarkedSplit}
use Rattle.book_splits.specs.declared.reconciliation.Recon.{Recon}
use Rattle.book_splits.specs.declared.split.Mark.{Mark}
use Rattle.book_splits.specs.declared.split.Mark.TheVariants.{New, Cleared, Reconciled}
use Rattle.book_splits.specs.declared.split.Split.{Split}
use Rattle.book_splits.specs.declared.transaction.Txn.{Txn}
use Rattle.book_undo.specs.Book.{Book}
use Rattle.book_reconcile.specs.Reconciliation.{is_intact}
use Rattle.book_step.specs.Reconciling.{book_reconciled, finished}
use Rattle.book_step.specs.State.{fresh_book}
use Rattle.book_chain.specs.Chain.{IsChained, IsLast, are_intact, of_account, sum_of_lists, up_to}

abbrev split : ℕ → ℕ → Mark → Option ℕ → ℤ → Split
split id account mark recon amount = record {
  id = id;
  account = account;
  memo = [];
  action = [];
  mark = mark;
  recon = recon;
  value = amount;
  quantity = amount;
}

abbrev on : ℕ → ℤ → List Split → ℕ × Txn
on number day splits =
    (number, record { currency = 1; day = day; num = []; description = []; splits = splits; voided = None })

abbrev kept : ℕ → ℤ → MarkedSplit
kept number quantity = record { split = number; quantity = quantity }

-- 1000.00 come and 200.00 go in January, 50.00 come in February
abbrev winter : Mark → Option ℕ → Mark → Option ℕ → List (ℕ × Txn)
winter first recon second other =
    on 10 (pos 19723) (split 11 3 first recon (pos 100000) ∷ split 12 4 New None (negsuc 99999) ∷ [])
    ∷ on 13 (pos 19753) (split 14 3 first recon (negsuc 19999) ∷ split 15 4 New None (pos 20000) ∷ [])
    ∷ on 16 (pos 19760) (split 17 3 second other (pos 5000) ∷ split 18 4 New None (negsuc 4999) ∷ [])
    ∷ []

-- those of account 3 are reconciled
abbrev marked : List (ℕ × Txn)
marked = winter Reconciled (Some 20) Reconciled (Some 21)

abbrev january : Recon
january = record {
  account = 3;
  day = pos 19753;
  opening = pos 0;
  closing = pos 80000;
  marked = kept 11 (pos 100000) ∷ kept 14 (negsuc 19999) ∷ [];
}

abbrev february : ℤ → Recon
february closing = record {
  account = 3;
  day = pos 19782;
  opening = pos 80000;
  closing = closing;
  marked = kept 17 (pos 5000) ∷ [];
}

abbrev with : List (ℕ × Txn) → List (ℕ × Recon) → Book
with transactions reconciliations =
    record fresh_book { transactions = transactions; reconciliations = reconciliations }

-- both are done one after the other, January under number 20 and February under 21
abbrev reconciled : Book
reconciled = with marked ((20, january) ∷ (21, february (pos 85000)) ∷ [])

abbrev cleared : Book
cleared = with (winter Cleared None Cleared None) []

abbrev first : Book
first = book_reconciled cleared 20 (finished cleared 3 (pos 19753) (pos 80000))

two_reconciliations : book_reconciled first 21 (finished first 3 (pos 19782) (pos 85000)) ≡ reconciled
two_reconciliations = refl

-- ---- a chained book

up_to_january : sum_of_lists (up_to 20 3 reconciled.reconciliations) ≡ pos 80000
up_to_january = refl

up_to_february : sum_of_lists (up_to 21 3 reconciled.reconciliations) ≡ pos 85000
up_to_february = refl

both_intact : are_intact reconciled.transactions (of_account 3 reconciled.reconciliations) ≡ true
both_intact = refl

-- what holds of the two holds of each
of_two :
    (P : ℕ → Recon → Type 0) (one other : Recon) (n : ℕ) (r : Recon)
    → value_of n ((20, one) ∷ (21, other) ∷ []) ≡ Some r → P 20 one → P 21 other → P n r
of_two P one other n r there first second =
    let Second : Bool → Type 0 = λ b. (n == 21) ≡ b → (if b then Some other else None) ≡ Some r → P n r in
    let First : Bool → Type 0 = λ b. (n == 20) ≡ b
    → (if b then Some one else (if n == 21 then Some other else None)) ≡ Some r → P n r in
    let later : (if n == 21 then Some other else None) ≡ Some r → P n r = (elim (n == 21) as Second [
      | true ↦ λ is found.
          let same : other ≡ r = cc in
          subst (λ (k : ℕ). P k r) (sym (eqb-true n 21 is)) (subst (P 21) same second)
      | false ↦ λ is found. absurd cc
    ]) refl in
    (elim (n == 20) as First [
      | true ↦ λ is found.
          let same : one ≡ r = cc in
          subst (λ (k : ℕ). P k r) (sym (eqb-true n 20 is)) (subst (P 20) same first)
      | false ↦ λ is found. later found
    ]) refl there

chained : IsChained reconciled
chained = record {
  each = λ n r there.
      of_two (λ k x. are_intact reconciled.transactions (up_to k x.account reconciled.reconciliations) ≡ true
      → sum_of_lists (up_to k x.account reconciled.reconciliations) ≡ x.closing) january (february (pos 85000)) n r
      there (λ intact. refl) (λ intact. refl);
}

-- ---- one that isn't

-- February says a cent more than the lists
abbrev cent_more : Book
cent_more = with marked ((20, january) ∷ (21, february (pos 85001)) ∷ [])

not_chained : IsChained cent_more → ⊥
not_chained is =
    let both : pos 85000 ≡ pos 85001 = is.each 21 (february (pos 85001)) refl refl in omega (arith, ints, both)

-- ---- where a record is broken, nothing is said of the later ones

-- January's splits are cleared again
abbrev broken : List (ℕ × Txn)
broken = winter Cleared None Reconciled (Some 21)

january_broken : is_intact 20 january broken ≡ false
january_broken = refl

february_intact : is_intact 21 (february (pos 85001)) broken ≡ true
february_intact = refl

chained_so : IsChained (with broken cent_more.reconciliations)
chained_so = record {
  each = λ n r there.
      of_two (λ k x. are_intact broken (up_to k x.account cent_more.reconciliations) ≡ true
      → sum_of_lists (up_to k x.account cent_more.reconciliations) ≡ x.closing) january (february (pos 85001)) n r
      there (λ intact. absurd cc) (λ intact. absurd cc);
}

-- ---- the last one

february_last : IsLast reconciled 21 (february (pos 85000))
february_last = record {
  there = refl;
  last = λ n r there own.
      of_two (λ k x. k ≤ 21) january (february (pos 85000)) n r there (omega arith) (omega arith);
}
