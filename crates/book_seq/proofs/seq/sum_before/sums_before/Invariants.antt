use Rattle.std.proofs.Common.{◌≡◌, ◌+◌, ◌≤◌, length, take, drop}
use Rattle.book_seq.specs.Chunks.{ArePacked, list_of}
use Rattle.book_seq.specs.Sums.{AreWithin, sums_of}
use Rattle.book_seq.proofs.seq.sum_before.sums_before.Given as goal

abbrev pub invariant-loop-chunk : goal.invariant-loop-chunk
invariant-loop-chunk g l = record {
  place_is : l.place ≡ length (list_of (take l.chunk-index l.chunks)) + l.left;
  left : l.left ≤ length (list_of (drop l.chunk-index l.chunks));
  packed : ArePacked (drop l.chunk-index l.chunks);
  sums : l.sums ≡ sums_of g.E.Weigh.weights (list_of (take l.chunk-index l.chunks));
  within : AreWithin (length (list_of (take l.chunk-index l.chunks))) l.sums;
  steps : l.steps ≡ l.fn.steps + l.chunk-index;
}
