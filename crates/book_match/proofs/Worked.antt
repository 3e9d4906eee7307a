-- Worked rows: proposals for lines and splits of one account. Days count from 1970-01-01, so that 19732 is 2024-01-10;
-- amounts are in cents.
use Rattle.std.proofs.Common.{◌≡◌, ℕ, ℤ, pos, negsuc, false, List, [], ◌∷◌, None, refl}
use Rattle.book_splits.specs.declared.split.Mark.TheVariants.{New}
use Rattle.book_splits.specs.declared.transaction.Txn.{Txn}
use Rattle.book_match.specs.AmountIndex.{is_there, of_amount, ordered, with_all, with_free, without_all, without_free}
use Rattle.book_match.specs.Kept.{views_on}
use Rattle.book_match.specs.Proposal.{proposal}
use Rattle.book_match.specs.declared.free.Free.{Free}
use Rattle.book_match.specs.declared.views.LineView.{LineView}
use Rattle.book_match.specs.declared.views.Matched.{Matched}
use Rattle.book_match.specs.declared.views.SplitView.{SplitView}

abbrev line : ℕ → ℤ → ℤ → List ℕ → LineView
line number day amount check = record { line = number; day = day; amount = amount; number = check }

abbrev split : ℕ → ℤ → ℤ → List ℕ → SplitView
split number day quantity num = record { split = number; day = day; quantity = quantity; num = num }

abbrev with : ℕ → ℕ → Matched
with number other = record { line = number; split = other }

-- two lines of -5.00 on 2024-01-10 and 2024-01-12
abbrev two_lines : List LineView
two_lines = line 1 (pos 19732) (negsuc 499) [] ∷ line 2 (pos 19734) (negsuc 499) [] ∷ []

-- splits of -5.00 on 2024-01-11 and 2024-01-20
abbrev two_splits : List SplitView
two_splits = split 5 (pos 19733) (negsuc 499) [] ∷ split 6 (pos 19742) (negsuc 499) [] ∷ []

within_three_days : proposal 3 two_lines two_splits ≡ with 1 5 ∷ []
within_three_days = refl

within_ten_days : proposal 10 two_lines two_splits ≡ with 1 5 ∷ with 2 6 ∷ []
within_ten_days = refl

-- the line of the earlier day chooses first, wherever it stands
lines_by_day : proposal 10 (line 2 (pos 19734) (negsuc 499) [] ∷ line 1 (pos 19732) (negsuc 499) [] ∷ []) two_splits
    ≡ with 1 5 ∷ with 2 6 ∷ []
lines_by_day = refl

-- on one day the line of the smaller number does
lines_by_number : proposal 0 (line 4 (pos 19732) (pos 100) [] ∷ line 3 (pos 19732) (pos 100) [] ∷ [])
    (split 8 (pos 19732) (pos 100) [] ∷ [])
    ≡ with 3 8 ∷ []
lines_by_number = refl

-- of splits of one day the one with the line's check number 77 is taken, and else the one of the smallest number
by_check_number : proposal 0 (line 1 (pos 19732) (pos 100) (55 ∷ 55 ∷ []) ∷ [])
    (split 5 (pos 19732) (pos 100) [] ∷ split 6 (pos 19732) (pos 100) (55 ∷ 55 ∷ []) ∷ [])
    ≡ with 1 6 ∷ []
by_check_number = refl

by_split_number : proposal 0 (line 1 (pos 19732) (pos 100) [] ∷ [])
    (split 6 (pos 19732) (pos 100) [] ∷ split 5 (pos 19732) (pos 100) (55 ∷ []) ∷ [])
    ≡ with 1 5 ∷ []
by_split_number = refl

-- a nearer split goes before one with the line's number
nearer_first : proposal 5 (line 1 (pos 19732) (pos 100) (55 ∷ []) ∷ [])
    (split 5 (pos 19733) (pos 100) (55 ∷ []) ∷ split 6 (pos 19732) (pos 100) [] ∷ [])
    ≡ with 1 6 ∷ []
nearer_first = refl

-- of splits two days before and two days after the one of the smaller number is taken, unless the other one alone has
-- the line's check number
abbrev one_line : List ℕ → List LineView
one_line check = line 1 (pos 19732) (pos 100) check ∷ []

abbrev both_sides : List ℕ → List ℕ → List SplitView
both_sides before after = split 6 (pos 19730) (pos 100) before ∷ split 5 (pos 19734) (pos 100) after ∷ []

as_near : proposal 2 (one_line []) (both_sides [] []) ≡ with 1 5 ∷ []
as_near = refl

one_has_the_number : proposal 2 (one_line (55 ∷ 55 ∷ [])) (both_sides (55 ∷ 55 ∷ []) []) ≡ with 1 6 ∷ []
one_has_the_number = refl

both_have_the_number : proposal 2 (one_line (55 ∷ 55 ∷ [])) (both_sides (55 ∷ 55 ∷ []) (55 ∷ 55 ∷ []))
    ≡ with 1 5 ∷ []
both_have_the_number = refl

-- and a day less is too little for both
within_one_day : proposal 1 (one_line []) (both_sides [] []) ≡ []
within_one_day = refl

-- another amount is never taken
other_amount : proposal 366 (line 1 (pos 19732) (pos 100) [] ∷ []) (split 5 (pos 19732) (negsuc 99) [] ∷ []) ≡ []
other_amount = refl

-- ---- the same through an index, with a transaction for each split
abbrev free : ℕ → ℤ → ℤ → ℕ → Free
free account amount day number = record { account = account; amount = amount; day = day; split = number }

abbrev posted : ℕ → ℕ → ℤ → ℤ → List ℕ → ℕ × Txn
posted number other day quantity num = (
  number,
  record {
    currency = 1;
    day = day;
    num = num;
    description = [];
    voided = None;
    splits = record {
      id = other;
      account = 3;
      memo = [];
      action = [];
      mark = New;
      recon = None;
      value = quantity;
      quantity = quantity;
    } ∷ [];
  },
)

abbrev transactions : List (ℕ × Txn)
transactions = posted 4 5 (pos 19733) (negsuc 499) [] ∷ posted 7 6 (pos 19742) (negsuc 499) (55 ∷ []) ∷ []

-- put in one after another, in another order
abbrev index : List Free
index =
    with_free (free 3 (negsuc 499) (pos 19742) 6) (with_free (free 2 (negsuc 499) (pos 19733) 9)
    (with_free (free 3 (negsuc 499) (pos 19733) 5) []))

index_rises : index
    ≡ free 2 (negsuc 499) (pos 19733) 9 ∷ free 3 (negsuc 499) (pos 19733) 5 ∷ free 3 (negsuc 499) (pos 19742) 6 ∷ []
index_rises = refl

-- the same put in at once
all_at_once : ordered (free 3 (negsuc 499) (pos 19742) 6 ∷ free 2 (negsuc 499) (pos 19733) 9
    ∷ free 3 (negsuc 499) (pos 19733) 5 ∷ []) ≡ index
all_at_once = refl

of_one_amount : of_amount 3 (negsuc 499) index
    ≡ free 3 (negsuc 499) (pos 19733) 5 ∷ free 3 (negsuc 499) (pos 19742) 6 ∷ []
of_one_amount = refl

taken_out : without_free (free 3 (negsuc 499) (pos 19733) 5) index
    ≡ free 2 (negsuc 499) (pos 19733) 9 ∷ free 3 (negsuc 499) (pos 19742) 6 ∷ []
taken_out = refl

-- two more put in at once, and two taken out at once
two_more : with_all (free 2 (negsuc 499) (pos 19740) 8 ∷ free 4 (pos 100) (pos 19733) 7 ∷ []) index
    ≡ free 2 (negsuc 499) (pos 19733) 9 ∷ free 2 (negsuc 499) (pos 19740) 8 ∷ free 3 (negsuc 499) (pos 19733) 5
    ∷ free 3 (negsuc 499) (pos 19742) 6 ∷ free 4 (pos 100) (pos 19733) 7 ∷ []
two_more = refl

two_fewer : without_all (free 2 (negsuc 499) (pos 19733) 9 ∷ free 3 (negsuc 499) (pos 19742) 6 ∷ []) index
    ≡ free 3 (negsuc 499) (pos 19733) 5 ∷ []
two_fewer = refl

-- a split that was moved to another day isn't there
moved : is_there (free 3 (negsuc 499) (pos 19734) 5) index ≡ false
moved = refl

as_they_are_matched : views_on 3 index transactions
    ≡ split 5 (pos 19733) (negsuc 499) [] ∷ split 6 (pos 19742) (negsuc 499) (55 ∷ []) ∷ []
as_they_are_matched = refl

kept_within_three_days : proposal 3 two_lines (views_on 3 index transactions) ≡ with 1 5 ∷ []
kept_within_three_days = refl

kept_within_ten_days : proposal 10 two_lines (views_on 3 index transactions) ≡ with 1 5 ∷ with 2 6 ∷ []
kept_within_ten_days = refl

-- the check number that decides is read in the split's transaction
abbrev with_number : List ℕ → List (ℕ × Txn)
with_number num = posted 4 5 (pos 19734) (pos 100) [] ∷ posted 7 6 (pos 19730) (pos 100) num ∷ []

abbrev as_near_in_index : List Free
as_near_in_index = free 3 (pos 100) (pos 19730) 6 ∷ free 3 (pos 100) (pos 19734) 5 ∷ []

number_through_the_index : proposal 2 (one_line (55 ∷ 55 ∷ [])) (views_on 3 as_near_in_index
    (with_number (55 ∷ 55 ∷ []))) ≡ with 1 6 ∷ []
number_through_the_index = refl

another_number_through_the_index : proposal 2 (one_line (55 ∷ 55 ∷ [])) (views_on 3 as_near_in_index
    (with_number (55 ∷ 56 ∷ []))) ≡ with 1 5 ∷ []
another_number_through_the_index = refl
