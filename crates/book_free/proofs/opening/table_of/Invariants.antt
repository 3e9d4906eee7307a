use Rattle.std.proofs.Common.{◌≡◌, ◌≤◌, [], length, drop}
use Rattle.book_free.specs.Seen.{noted}
use Rattle.book_free.proofs.opening.table_of.Given as goal

abbrev pub invariant-loop-split : goal.invariant-loop-split
invariant-loop-split l =
    (noted (drop l.split-index l.pairs) l.table.entries ≡ noted l.pairs [])
    × (length (drop l.split-index l.pairs) ≤ l.table.spare)
