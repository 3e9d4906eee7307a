use Rattle.std.proofs.Common.{◌≡◌, ◌++◌, drop, filter}
use Rattle.book_finish.specs.Kept.{is_row_to_mark}
use Rattle.book_finish.proofs.marked.add_to_mark.Given as goal

-- those of the rows still to come that are marked are still to be added
abbrev pub invariant-loop-row : goal.invariant-loop-row
invariant-loop-row l =
    l.rows.items ++ filter (is_row_to_mark l.day) (drop l.row-index l.part)
    ≡ l.fn.rows.items ++ filter (is_row_to_mark l.day) l.part
