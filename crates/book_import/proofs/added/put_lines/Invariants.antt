-- The edits so far, and those of the lines that are left, are all.
use Rattle.std.proofs.Common.{◌≡◌, ◌++◌}
use Rattle.book_import.specs.Edits.{line_edits}
use Rattle.book_import.proofs.added.put_lines.Given as goal

abbrev pub invariant-loop-number : goal.invariant-loop-number
invariant-loop-number l =
    l.edits ++ line_edits l.number-iterator.rest.items ≡ l.fn.edits ++ line_edits l.fn.lines
