use Rattle.std.proofs.Common.{◌≡◌, ◌++◌, map, take}
use Rattle.book_listings.specs.Accounts.{row_at}
use Rattle.book_listings.proofs.accounts.add_rows.Given as goal

-- the rows of the accounts so far were added
abbrev pub invariant-loop-number : goal.invariant-loop-number
invariant-loop-number l = l.rows ≡ l.fn.rows ++ map (row_at l.book) (take l.number-index l.order)
