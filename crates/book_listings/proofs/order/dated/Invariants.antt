use Rattle.std.proofs.Common.{◌≡◌, take}
use Rattle.book_listings.specs.Journal.{dated}
use Rattle.book_listings.proofs.order.dated.Given as goal

-- those of the transactions so far
abbrev pub invariant-loop-number : goal.invariant-loop-number
invariant-loop-number l = l.all.items ≡ dated l.days (take l.number-index l.transactions)
