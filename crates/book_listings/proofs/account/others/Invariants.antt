use Rattle.std.proofs.Common.{◌≡◌, take}
use Rattle.book_listings.specs.Account.{others_than}
use Rattle.book_listings.proofs.account.others.Given as goal

-- the accounts of the splits so far
abbrev pub invariant-loop-other : goal.invariant-loop-other
invariant-loop-other l = l.others.items ≡ others_than l.split (take l.other-index l.splits)
