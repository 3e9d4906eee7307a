-- Those so far keep their rules and the limits, and the numbers of their splits are seen.
use Rattle.std.proofs.Common.{◌≡◌, ◌≤◌, drop, take}
use Rattle.book_sound.specs.MarkedTransactionRules.{marked_transaction_rules}
use Rattle.book_check.specs.FirstUnsound.{first_in, splits_in}
use Rattle.book_check.specs.Numbers.{HasNumbers}
use Rattle.book_check.proofs.transactions.first_transaction.Given as goal

abbrev pub invariant-loop-place : goal.invariant-loop-place
invariant-loop-place l = record {
  walk :
      first_in
      (marked_transaction_rules l.commodities.entries l.accounts.entries l.reconciliations.entries
      l.transactions.entries)
      200000 splits_in 1000000 0 0 l.transactions.entries
      ≡ first_in
      (marked_transaction_rules l.commodities.entries l.accounts.entries l.reconciliations.entries
      l.transactions.entries)
      200000 splits_in 1000000 l.place l.sum (drop l.place l.transactions.entries);
  numbers : HasNumbers l.seen (take l.place l.transactions.entries);
  light : l.sum ≤ 1000000;
}
