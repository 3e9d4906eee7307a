use Rattle.std.proofs.Common.{◌≡◌, ◌++◌, length}
use Rattle.book_export.specs.Names.{written, written_from}
use Rattle.book_export.proofs.names.push_written.Given as goal

-- what was added so far, and what is left of the name
abbrev pub invariant-loop-byte : goal.invariant-loop-byte
invariant-loop-byte l =
    l.out.items ++ written_from l.of_blank l.at_edge l.left ≡ l.fn.out.items ++ written l.fn.edge l.fn.name

abbrev pub decreases-loop-byte : goal.decreases-loop-byte
decreases-loop-byte l = length l.left
