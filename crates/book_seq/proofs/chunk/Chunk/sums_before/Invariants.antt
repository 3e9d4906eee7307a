use Rattle.std.proofs.Common.{◌≡◌, ◌+◌, take}
use Rattle.book_seq.specs.Sums.{AreWithin, sums_of}
use Rattle.book_seq.proofs.chunk.Chunk.sums_before.Given as goal

abbrev pub invariant-loop-before : goal.invariant-loop-before
invariant-loop-before g l = record {
  sums : l.sums ≡ sums_of g.E.Weigh.weights (take l.before l.self.entries);
  within : AreWithin l.before l.sums;
  steps : l.steps ≡ l.fn.steps + l.before;
}
