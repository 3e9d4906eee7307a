-- Worked rows: an account 3 whose statement of 2024-01-31 closes at 850.00. Days count from 1970-01-01, so that 19723
-- is 2024-01-01 and 19753 is 2024-01-31. Account 4 stands for rent, account 5 for opening balances.
use Rattle.std.proofs.Common.{◌≡◌, ℕ, ℤ, pos, negsuc, true, false, List, [], ◌∷◌, Option, Some, None, Ok, Err, refl}
use Rattle.book_splits.specs.declared.reconciliation.MarkedSplit.{MarkedSplit}
use Rattle.book_splits.specs.declared.split.Mark.{Mark}
use Rattle.book_splits.specs.declared.split.Mark.TheVariants.{New, Cleared, Reconciled}
use Rattle.book_splits.specs.declared.split.Split.{Split}
use Rattle.book_splits.specs.declared.transaction.Txn.{Txn}
use Rattle.book_reconcile.specs.Reconciliation.{FinishesBy, difference, finish, is_intact, opening, splits_to_mark}
use Rattle.book_reconcile.specs.declared.finish.FinishError.TheVariants.{Difference}

abbrev split : ℕ → ℕ → Mark → Option ℕ → ℤ → Split
split id account mark recon quantity = record {
  id = id;
  account = account;
  memo = [];
  action = [];
  mark = mark;
  recon = recon;
  value = quantity;
  quantity = quantity;
}

abbrev on : ℕ → ℤ → List Split → ℕ × Txn
on number day splits =
    (number, record { currency = 1; day = day; num = []; description = []; splits = splits; voided = None })

abbrev kept : ℕ → ℤ → MarkedSplit
kept number quantity = record { split = number; quantity = quantity }

-- 1000.00 opening, 200.00 of rent paid and 50.00 paid back, all cleared
abbrev cleared : List (ℕ × Txn)
cleared =
    on 10 (pos 19723) (split 11 3 Cleared None (pos 100000) ∷ split 12 5 New None (negsuc 99999) ∷ [])
    ∷ on 13 (pos 19727) (split 14 3 Cleared None (negsuc 19999) ∷ split 15 4 New None (pos 20000) ∷ [])
    ∷ on 16 (pos 19730) (split 17 3 Cleared None (pos 5000) ∷ split 18 4 New None (negsuc 4999) ∷ []) ∷ []

one_cent_more : difference 3 (pos 19753) (pos 85001) cleared ≡ pos 1
one_cent_more = refl

no_difference : difference 3 (pos 19753) (pos 85000) cleared ≡ pos 0
no_difference = refl

-- a cleared split after the day isn't counted
until_the_fifth : difference 3 (pos 19727) (pos 80000) cleared ≡ pos 0
until_the_fifth = refl

record_of_january : finish 3 (pos 19753) (pos 85000) cleared ≡ record {
  account = 3;
  day = pos 19753;
  opening = pos 0;
  closing = pos 85000;
  marked = kept 11 (pos 100000) ∷ kept 14 (negsuc 19999) ∷ kept 17 (pos 5000) ∷ [];
}
record_of_january = refl

-- it is what a reconciliation at 850.00 answers, and the missing cent what one at 850.01 does
finished : FinishesBy 3 (pos 19753) (pos 85000) cleared (Ok (finish 3 (pos 19753) (pos 85000) cleared))
finished = (refl, refl)

not_finished : FinishesBy 3 (pos 19753) (pos 85001) cleared (Err (Difference (pos 1)))
not_finished = (refl, λ e. absurd cc)

-- splits of another account don't count, be they cleared or reconciled; 850.00 are in account 3 as before
abbrev with_another_account : List (ℕ × Txn)
with_another_account =
    on 5 (pos 19722) (split 6 6 Reconciled (Some 8) (pos 300) ∷ split 7 6 Cleared None (pos 40) ∷ []) ∷ cleared

another_account : difference 3 (pos 19753) (pos 85000) with_another_account ≡ pos 0
another_account = refl

another_account_isnt_marked : splits_to_mark 3 (pos 19753) with_another_account
    ≡ kept 11 (pos 100000) ∷ kept 14 (negsuc 19999) ∷ kept 17 (pos 5000) ∷ []
another_account_isnt_marked = refl

its_own : difference 6 (pos 19753) (pos 340) with_another_account ≡ pos 0
its_own = refl

-- a foreign account's balance is of its quantities, here 90.00, and not of its values, here 100.00
abbrev foreign : List (ℕ × Txn)
foreign =
    on 10 (pos 19723) (record {
      id = 11;
      account = 3;
      memo = [];
      action = [];
      mark = Cleared;
      recon = None;
      value = pos 10000;
      quantity = pos 9000;
    } ∷ []) ∷ []

by_quantity : difference 3 (pos 19753) (pos 9000) foreign ≡ pos 0
by_quantity = refl

marked_by_quantity : splits_to_mark 3 (pos 19753) foreign ≡ kept 11 (pos 9000) ∷ []
marked_by_quantity = refl

-- a transaction that was entered last but is of an earlier day stands in front
abbrev entered_late : List (ℕ × Txn)
entered_late =
    on 10 (pos 19727) (split 11 3 Cleared None (pos 1) ∷ split 12 3 Cleared None (pos 2) ∷ [])
    ∷ on 13 (pos 19723) (split 14 3 Cleared None (pos 3) ∷ [])
    ∷ on 15 (pos 19727) (split 16 3 New None (pos 4) ∷ split 17 3 Cleared None (pos 5) ∷ []) ∷ []

in_order_of_the_register : splits_to_mark 3 (pos 19753) entered_late
    ≡ kept 14 (pos 3) ∷ kept 11 (pos 1) ∷ kept 12 (pos 2) ∷ kept 17 (pos 5) ∷ []
in_order_of_the_register = refl

-- a cleared split after the day isn't marked
marked_until_the_fourth : splits_to_mark 3 (pos 19726) entered_late ≡ kept 14 (pos 3) ∷ []
marked_until_the_fourth = refl

-- once they are reconciled under the record 19
abbrev reconciled : ℤ → List (ℕ × Txn)
reconciled rent =
    on 10 (pos 19723) (split 11 3 Reconciled (Some 19) (pos 100000) ∷ split 12 5 New None (negsuc 99999) ∷ [])
    ∷ on 13 (pos 19727) (split 14 3 Reconciled (Some 19) rent ∷ split 15 4 New None (pos 20000) ∷ [])
    ∷ on 16 (pos 19730) (split 17 3 Reconciled (Some 19) (pos 5000) ∷ split 18 4 New None (negsuc 4999) ∷ []) ∷ []

-- the next statement opens at 850.00, also at an earlier day
opens_at_closing : opening 3 (reconciled (negsuc 19999)) ≡ pos 85000
opens_at_closing = refl

nothing_more_to_mark : difference 3 (pos 19723) (pos 85000) (reconciled (negsuc 19999)) ≡ pos 0
nothing_more_to_mark = refl

-- 30.00 more are cleared after it: it opens at 850.00 and closes at 880.00
abbrev in_february : List (ℕ × Txn)
in_february =
    on 20 (pos 19760) (split 21 3 Cleared None (pos 3000) ∷ split 22 4 New None (negsuc 2999) ∷ [])
    ∷ reconciled (negsuc 19999)

from_opening_to_closing : finish 3 (pos 19782) (pos 88000) in_february ≡ record {
  account = 3;
  day = pos 19782;
  opening = pos 85000;
  closing = pos 88000;
  marked = kept 21 (pos 3000) ∷ [];
}
from_opening_to_closing = refl

no_difference_in_february : difference 3 (pos 19782) (pos 88000) in_february ≡ pos 0
no_difference_in_february = refl

as_it_was : is_intact 19 (finish 3 (pos 19753) (pos 85000) cleared) (reconciled (negsuc 19999)) ≡ true
as_it_was = refl

-- a cent more was paid, by a forced edit
edited : is_intact 19 (finish 3 (pos 19753) (pos 85000) cleared) (reconciled (negsuc 20000)) ≡ false
edited = refl

-- it is the record 19, and no other
under_another_number : is_intact 20 (finish 3 (pos 19753) (pos 85000) cleared) (reconciled (negsuc 19999)) ≡ false
under_another_number = refl

-- a split is gone
gone : is_intact 19 (finish 3 (pos 19753) (pos 85000) cleared) [] ≡ false
gone = refl

-- the rent is in another account, has the mark cleared, or is reconciled under no record
abbrev with_rent : Split → List (ℕ × Txn)
with_rent rent =
    on 10 (pos 19723) (split 11 3 Reconciled (Some 19) (pos 100000) ∷ []) ∷ on 13 (pos 19727) (rent ∷ [])
    ∷ on 16 (pos 19730) (split 17 3 Reconciled (Some 19) (pos 5000) ∷ []) ∷ []

rent_as_it_was : is_intact 19 (finish 3 (pos 19753) (pos 85000) cleared)
    (with_rent (split 14 3 Reconciled (Some 19) (negsuc 19999))) ≡ true
rent_as_it_was = refl

in_another_account : is_intact 19 (finish 3 (pos 19753) (pos 85000) cleared)
    (with_rent (split 14 4 Reconciled (Some 19) (negsuc 19999))) ≡ false
in_another_account = refl

with_the_mark_cleared : is_intact 19 (finish 3 (pos 19753) (pos 85000) cleared)
    (with_rent (split 14 3 Cleared (Some 19) (negsuc 19999))) ≡ false
with_the_mark_cleared = refl

under_no_record : is_intact 19 (finish 3 (pos 19753) (pos 85000) cleared)
    (with_rent (split 14 3 Reconciled None (negsuc 19999))) ≡ false
under_no_record = refl
