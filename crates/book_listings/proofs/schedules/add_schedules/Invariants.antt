use Rattle.std.proofs.Common.{◌≡◌, ℕ, List, ◌++◌, take}
use Rattle.book_listings.specs.Schedules.{AreRows}
use Rattle.book_listings.proofs.schedules.add_schedules.Given as goal

-- the rows of the schedules so far were added
abbrev pub invariant-loop-entry : goal.invariant-loop-entry
invariant-loop-entry l =
    (added : List (List (List ℕ))) × (l.rows ≡ l.fn.rows ++ added)
    × AreRows l.form l.book (take l.entry-index l.schedules) added
