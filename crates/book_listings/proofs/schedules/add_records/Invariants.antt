use Rattle.std.proofs.Common.{◌≡◌, ◌++◌, map, take}
use Rattle.book_listings.specs.Schedules.{record_row}
use Rattle.book_listings.proofs.schedules.add_records.Given as goal

-- the rows of the splits so far were added
abbrev pub invariant-loop-split : goal.invariant-loop-split
invariant-loop-split l =
    l.rows ≡ l.fn.rows ++ map (record_row l.book l.number l.schedule l.next) (take l.split-index l.split-items)
