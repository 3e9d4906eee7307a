-- The marks of the splits so far are added.
use Rattle.std.proofs.Common.{◌≡◌, ◌||◌, take}
use Rattle.book_check.specs.Marks.{MarkKey, is_made_by, mark_cmp}
use Rattle.book_check.specs.Seen.{is_seen}
use Rattle.book_check.proofs.marks.add_marks.Given as goal

abbrev pub invariant-loop-item : goal.invariant-loop-item
invariant-loop-item l =
    (key : MarkKey) → is_seen mark_cmp l.marks key
    ≡ (is_made_by l.number (take l.item-index l.marked) key || is_seen mark_cmp l.fn.marks key)
