use Rattle.std.proofs.Common.{◌≡◌, take}
use Rattle.book_match.proofs.index.in_chunks.Given as goal

abbrev pub invariant-loop-entry : goal.invariant-loop-entry
invariant-loop-entry l = l.seq.list ≡ take l.entry-index l.entries
