use Rattle.std.proofs.Common.{drop}
use Rattle.book_sqlite.proofs.NextLemmas.{ReadSoFar}
use Rattle.book_sqlite.proofs.selects.read_on.Given as goal

abbrev pub invariant-loop-shown : goal.invariant-loop-shown
invariant-loop-shown l = ReadSoFar l.fn.key l.last l.fn.shown (drop l.shown-index l.fn.shown) l.fn.rows.items l.rows.items
