-- None so far is of the root's kind.
use Rattle.std.proofs.Common.{◌≡◌, drop}
use Rattle.book_accounts.specs.AccountRules.{root_of}
use Rattle.book_broken.proofs.accounts.root_of.Given as goal

abbrev pub invariant-loop-place : goal.invariant-loop-place
invariant-loop-place l = root_of l.accounts.entries ≡ root_of (drop l.place l.accounts.entries)
