-- The sums of the weights of rows are their balances.
use Rattle.std.proofs.Common.{◌≡◌, ℕ, ℤ, pos, ◌+ℤ◌, Bool, true, false, cond, if◌then◌else◌, List, [], ◌∷◌, take}
use Rattle.std.proofs.Common.{filter, get_or, refl, sym, ap, ◌∙◌}
use Rattle.std.proofs.Math.IntN.{+ℤ_idl}
use Rattle.std.specs.Prelude.{int_le}
use Rattle.book_seq.specs.Sums.{sums_of}
use Rattle.book_register.specs.Register.{IsBound, balance, key_at, rows_until}
use Rattle.book_register.specs.Weights.{is_cleared, is_reconciled, weights_of}
use Rattle.book_register.specs.declared.balances.Balances.{Balances}
use Rattle.book_register.specs.declared.entry.Entry.{Entry}
use Rattle.book_register.proofs.KeyLemmas.{precedes-until}
use Rattle.book_register.proofs.RowLemmas.{filter_first}

pub all_sum : (rows : List Entry) → (sums_of weights_of rows).first ≡ balance rows
all_sum [] = refl
all_sum (row ∷ rows) = ap (λ z. row.quantity +ℤ z) (all_sum rows)

-- the rows that pass a test weigh their quantity, the others nothing
part : (t : Bool) (row : Entry) (rest : List Entry) (z : ℤ) → z ≡ balance rest
    → ((if t then row.quantity else pos 0) +ℤ z) ≡ balance (cond t (row ∷ rest) rest)
part true row rest z is = ap (λ y. row.quantity +ℤ y) is
part false row rest z is = +ℤ_idl z ∙ is

pub cleared_sum : (rows : List Entry)
    → (sums_of weights_of rows).second ≡ balance (filter (λ entry. is_cleared entry.mark) rows)
cleared_sum [] = refl
cleared_sum (row ∷ rows) = part (is_cleared row.mark) row (filter (λ entry. is_cleared entry.mark) rows) _
    (cleared_sum rows)

pub reconciled_sum : (rows : List Entry)
    → (sums_of weights_of rows).third ≡ balance (filter (λ entry. is_reconciled entry.mark) rows)
reconciled_sum [] = refl
reconciled_sum (row ∷ rows) =
    part (is_reconciled row.mark) row (filter (λ entry. is_reconciled entry.mark) rows) _ (reconciled_sum rows)

-- the rows on or before a day are the first so many
pub until_is : (rows : List Entry) (day : ℤ) (i : ℕ) → IsBound (key_at (day +ℤ pos 1) 0 0) rows i
    → rows_until day rows ≡ take i rows
until_is rows day i bound =
    filter_first (λ entry. int_le entry.day day) rows i bound.within
    (λ k d lt. sym (precedes-until (get_or rows k d) day) ∙ bound.before k d lt)
    (λ k d ge lt. sym (precedes-until (get_or rows k d) day) ∙ bound.others k d ge lt)

abbrev made : ℤ → ℤ → ℤ → Balances
made a b c = record { all = a; cleared = b; reconciled = c }

-- balances are the same where each of the three is
pub same_balances : (s t : Balances) → s.all ≡ t.all → s.cleared ≡ t.cleared → s.reconciled ≡ t.reconciled → s ≡ t
same_balances s t a b c =
    ap (λ z. made z s.cleared s.reconciled) a ∙ ap (λ z. made t.all z s.reconciled) b
    ∙ ap (λ z. made t.all t.cleared z) c
