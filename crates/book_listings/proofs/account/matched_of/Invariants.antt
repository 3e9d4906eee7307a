use Rattle.std.proofs.Common.{◌≡◌, take}
use Rattle.book_listings.specs.Account.{matched_of}
use Rattle.book_listings.proofs.account.matched_of.Given as goal

-- those of the lines so far
abbrev pub invariant-loop-entry : goal.invariant-loop-entry
invariant-loop-entry l = l.matched.items ≡ matched_of l.account (take l.entry-index l.lines)
