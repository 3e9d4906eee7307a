use Rattle.std.proofs.Common.{◌≡◌, length}
use Rattle.book_json.specs.Words.{rows_of, word_of}
use Rattle.book_json.proofs.word.word_of.Given as goal

abbrev pub invariant-loop-table : goal.invariant-loop-table
invariant-loop-table g l =
    word_of g.W.PartialEq.eq (rows_of l.table) l.value ≡ word_of g.W.PartialEq.eq (rows_of l.fn.table) l.value

abbrev pub decreases-loop-table : goal.decreases-loop-table
decreases-loop-table g l = length l.table
