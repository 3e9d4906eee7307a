-- The edits so far, and those of the statements that are left, are all.
use Rattle.std.proofs.Common.{◌≡◌, ◌++◌}
use Rattle.book_import.specs.Edits.{statement_edits}
use Rattle.book_import.proofs.added.put_statements.Given as goal

abbrev pub invariant-loop-number : goal.invariant-loop-number
invariant-loop-number l =
    l.edits ++ statement_edits l.number-iterator.rest.items ≡ l.fn.edits ++ statement_edits l.fn.statements
