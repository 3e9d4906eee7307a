-- The marks of the reconciliations so far are added.
use Rattle.std.proofs.Common.{◌≡◌, take}
use Rattle.book_check.specs.Marks.{MarkKey, is_made, mark_cmp}
use Rattle.book_check.specs.Seen.{is_seen}
use Rattle.book_check.proofs.marks.marks_of.Given as goal

abbrev pub invariant-loop-place : goal.invariant-loop-place
invariant-loop-place l =
    (key : MarkKey) → is_seen mark_cmp l.marks key ≡ is_made (take l.place l.reconciliations.entries) key
