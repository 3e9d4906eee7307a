-- The marked splits of a reconciliation, gone through from place to place.
use Rattle.std.proofs.Common.{◌≡◌, ℕ, suc, ◌+◌, ◌<◌, ◌+ℤ◌, not, Bool, true, false, ◌&&◌, List, [], ◌∷◌, length, drop}
use Rattle.std.proofs.Common.{get_or, map, take, refl, sym, ap, ◌∙◌, arith}
use Rattle.std.proofs.Math.IntN.{+ℤ_idr}
use Rattle.std.proofs.Math.Seq.{drop-cons}
use Rattle.std.proofs.lemmas.List.{map-append, take_more}
use Rattle.std.specs.List.{list_any}
use Rattle.std.specs.Ordering.{nat_cmp}
use Rattle.book_splits.specs.Balance.{total}
use Rattle.book_splits.specs.TransactionRules.{are_once}
use Rattle.book_splits.specs.declared.reconciliation.MarkedSplit.{MarkedSplit}
use Rattle.book_splits.proofs.BalanceLemmas.{total-append}
use Rattle.book_sound.specs.ReconciliationRules.{marked_numbers, marked_sum}
use Rattle.book_check.specs.Numbers.{are_new}
use Rattle.book_check.specs.Seen.{Adds, is_seen}
use Rattle.book_check.proofs.NumberLemmas.{new_next, new_taken}

-- before any number is seen, those that stand once are new
none_seen : (numbers : List ℕ) → list_any (is_seen nat_cmp []) numbers ≡ false
none_seen [] = refl
none_seen (n ∷ more) = none_seen more

pub once_new : (numbers : List ℕ) → are_once numbers ≡ are_new [] numbers
once_new numbers =
    alone (are_once numbers) ∙ ap (λ t. are_once numbers && not t) (sym (none_seen numbers))
  where
    alone : (a : Bool) → a ≡ (a && true)
    alone true = refl
    alone false = refl

-- the splits from a place on are the one there and those behind it
next_split :
    (marked : List MarkedSplit) (i : ℕ) (d : MarkedSplit) → i < length marked
    → marked_numbers (drop i marked) ≡ (get_or marked i d).split ∷ marked_numbers (drop (i + 1) marked)
next_split marked i d below =
    ap marked_numbers (drop-cons marked i d below)
    ∙ (let next : suc i ≡ i + 1 = omega arith in
    ap (λ k. (get_or marked i d).split ∷ marked_numbers (drop k marked)) next)

-- the number of the split at a place was seen, or it is seen now
pub split_taken :
    (seen : List ℕ) (marked : List MarkedSplit) (i : ℕ) (d : MarkedSplit) → i < length marked
    → is_seen nat_cmp seen (get_or marked i d).split ≡ true → are_new seen (marked_numbers (drop i marked)) ≡ false
split_taken seen marked i d below taken =
    ap (are_new seen) (next_split marked i d below)
    ∙ new_taken seen (get_or marked i d).split (marked_numbers (drop (i + 1) marked)) taken

pub split_next :
    (old new : List ℕ) (marked : List MarkedSplit) (i : ℕ) (d : MarkedSplit) → i < length marked
    → is_seen nat_cmp old (get_or marked i d).split ≡ false → Adds nat_cmp old (get_or marked i d).split new
    → are_new old (marked_numbers (drop i marked)) ≡ are_new new (marked_numbers (drop (i + 1) marked))
split_next old new marked i d below free adds =
    ap (are_new old) (next_split marked i d below)
    ∙ new_next old new (get_or marked i d).split (marked_numbers (drop (i + 1) marked)) free adds

-- one marked split more is in the sum
pub sum_more :
    (marked : List MarkedSplit) (i : ℕ) (d : MarkedSplit) → i < length marked
    → marked_sum (take (i + 1) marked) ≡ marked_sum (take i marked) +ℤ (get_or marked i d).quantity
sum_more marked i d below =
    ap marked_sum (take_more marked i d below)
    ∙ ap total (map-append (λ split. split.quantity) (take i marked) (get_or marked i d ∷ []))
    ∙ total-append (map (λ split. split.quantity) (take i marked)) ((get_or marked i d).quantity ∷ [])
    ∙ ap (λ z. marked_sum (take i marked) +ℤ z) (+ℤ_idr (get_or marked i d).quantity)
