use Rattle.std.proofs.Common.{◌≡◌, ◌∷◌, ◌++◌, map, take}
use Rattle.book_listings.specs.Schedules.{head_row, split_row}
use Rattle.book_listings.proofs.schedules.add_plain.Given as goal

-- the row of the schedule and those of the splits so far were added
abbrev pub invariant-loop-split : goal.invariant-loop-split
invariant-loop-split l =
    l.rows ≡ l.fn.rows ++ head_row l.book l.number l.schedule l.next
    ∷ map (split_row l.book l.schedule.template) (take l.split-index l.split-items)
