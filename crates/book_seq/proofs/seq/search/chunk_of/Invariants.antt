use Rattle.std.proofs.Common.{◌≡◌, ℕ, ◌+◌, ◌-◌, ◌^◌, ◌<◌, ◌≤◌, true, false, length, get_or}
use Rattle.book_seq.specs.Chunks.{Piece}
use Rattle.book_seq.specs.Cuts.{is_passed}
use Rattle.book_seq.proofs.seq.search.chunk_of.Given as goal

abbrev pub invariant-loop-round : goal.invariant-loop-round
invariant-loop-round g l = record {
  within : l.low ≤ l.high;
  bound : l.high ≤ length l.chunks;
  before : (k : ℕ) (d : Piece g.row.E.Denot) → k < l.low
      → is_passed (g.T.Test.is_passed l.test) (get_or l.chunks k d) ≡ true;
  others : (k : ℕ) (d : Piece g.row.E.Denot) → l.high ≤ k → k < length l.chunks
      → is_passed (g.T.Test.is_passed l.test) (get_or l.chunks k d) ≡ false;
  narrow : l.high - l.low < 2 ^ (55 - l._round);
  steps : l.steps ≤ l.fn.steps + l._round;
}
