use Rattle.std.proofs.Common.{◌≡◌, ◌-◌, filter, length, take}
use Rattle.book_finish.specs.Kept.{is_row_to_mark}
use Rattle.book_finish.proofs.marked.rows_to_mark.Given as goal

-- the rows so far that are marked were added
abbrev pub invariant-loop-place : goal.invariant-loop-place
invariant-loop-place l = l.rows.items ≡ filter (is_row_to_mark l.day) (take l.place l.register.rows)

abbrev pub decreases-loop-place : goal.decreases-loop-place
decreases-loop-place l = length l.register.rows - l.place
