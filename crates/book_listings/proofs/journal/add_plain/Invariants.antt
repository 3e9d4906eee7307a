use Rattle.std.proofs.Common.{◌≡◌, ◌∷◌, ◌++◌, map, take}
use Rattle.book_listings.specs.Journal.{head_row, split_row}
use Rattle.book_listings.proofs.journal.add_plain.Given as goal

-- the row of the transaction and those of the splits so far were added
abbrev pub invariant-loop-split : goal.invariant-loop-split
invariant-loop-split l =
    l.rows ≡ l.fn.rows ++ head_row l.book l.number l.transaction
    ∷ map (split_row l.book l.transaction) (take l.split-index l.split-items)
