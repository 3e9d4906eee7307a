-- None so far has a smaller number and the same parent and name.
use Rattle.std.proofs.Common.{◌≡◌, drop}
use Rattle.book_commodity.specs.Rules.{stands_before}
use Rattle.book_accounts.specs.AccountRules.{has_same_name}
use Rattle.book_broken.proofs.accounts.has_same_before.Given as goal

abbrev pub invariant-loop-place : goal.invariant-loop-place
invariant-loop-place l =
    stands_before (has_same_name l.account) l.number l.accounts.entries
    ≡ stands_before (has_same_name l.account) l.number (drop l.place l.accounts.entries)
