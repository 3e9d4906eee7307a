use Rattle.std.proofs.Common.{◌≡◌, length}
use Rattle.std.specs.List.{list_all}
use Rattle.book_export.specs.Symbols.{is_capital}
use Rattle.book_export.proofs.symbols.are_capitals.Given as goal

-- the bytes so far are capitals
abbrev pub invariant-loop-byte : goal.invariant-loop-byte
invariant-loop-byte l = list_all is_capital l.left ≡ list_all is_capital l.fn.name

abbrev pub decreases-loop-byte : goal.decreases-loop-byte
decreases-loop-byte l = length l.left
