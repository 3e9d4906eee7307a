use Rattle.std.proofs.Common.{◌≡◌, take}
use Rattle.book_listings.specs.Find.{with_part}
use Rattle.book_listings.proofs.find.with_part.Given as goal

-- those of the transactions so far
abbrev pub invariant-loop-number : goal.invariant-loop-number
invariant-loop-number l = l.all.items ≡ with_part l.part (take l.number-index l.transactions)
