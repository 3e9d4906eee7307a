use Rattle.std.proofs.Common.{◌≡◌, length}
use Rattle.book_json.specs.Words.{named, rows_of}
use Rattle.book_json.proofs.word.named.Given as goal

abbrev pub invariant-loop-table : goal.invariant-loop-table
invariant-loop-table g l = named (rows_of l.table) l.text ≡ named (rows_of l.fn.table) l.text

abbrev pub decreases-loop-table : goal.decreases-loop-table
decreases-loop-table g l = length l.table
