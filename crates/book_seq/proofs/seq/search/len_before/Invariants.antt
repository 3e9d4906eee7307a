use Rattle.std.proofs.Common.{◌≡◌, length, take}
use Rattle.book_seq.specs.Chunks.{list_of}
use Rattle.book_seq.proofs.seq.search.len_before.Given as goal

abbrev pub invariant-loop-chunk : goal.invariant-loop-chunk
invariant-loop-chunk g l = l.len ≡ length (list_of (take l.chunk l.chunks))
