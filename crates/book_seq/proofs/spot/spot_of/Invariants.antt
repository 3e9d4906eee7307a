use Rattle.std.proofs.Common.{◌≡◌, ◌+◌, length, take}
use Rattle.book_seq.specs.Chunks.{list_of}
use Rattle.book_seq.proofs.spot.spot_of.Given as goal

abbrev pub invariant-loop-chunk : goal.invariant-loop-chunk
invariant-loop-chunk g l = l.place ≡ length (list_of (take l.chunk l.chunks)) + l.offset
