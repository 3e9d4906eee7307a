-- The numbers so far were new, and are seen.
use Rattle.std.proofs.Common.{◌≡◌, ◌||◌, ℕ, drop}
use Rattle.std.specs.Ordering.{nat_cmp}
use Rattle.book_splits.specs.TransactionRules.{is_among, numbers_of}
use Rattle.book_check.specs.Numbers.{are_new}
use Rattle.book_check.specs.Seen.{is_seen}
use Rattle.book_check.proofs.transactions.add_new.Given as goal

abbrev pub invariant-loop-split : goal.invariant-loop-split
invariant-loop-split l = record {
  new : are_new l.fn.seen (numbers_of l.splits) ≡ are_new l.seen (numbers_of (drop l.split-index l.splits));
  adds :
      (number : ℕ) → (is_among (numbers_of l.splits) number || is_seen nat_cmp l.fn.seen number)
      ≡ (is_among (numbers_of (drop l.split-index l.splits)) number || is_seen nat_cmp l.seen number);
}
