use Rattle.std.proofs.Common.{◌≡◌, ◌++◌, take}
use Rattle.std.specs.List.{flat_map}
use Rattle.book_listings.specs.Journal.{rows_at}
use Rattle.book_listings.proofs.journal.add_transactions.Given as goal

-- the rows of the transactions so far were added
abbrev pub invariant-loop-number : goal.invariant-loop-number
invariant-loop-number l = l.rows ≡ l.fn.rows ++ flat_map (λ e. rows_at l.form l.book e.1) (take l.number-index l.order)
