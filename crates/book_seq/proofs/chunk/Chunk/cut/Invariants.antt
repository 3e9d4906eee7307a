use Rattle.std.proofs.Common.{◌≡◌, ℕ, ◌+◌, ◌-◌, ◌^◌, ◌<◌, ◌≤◌, true, false, length, get_or}
use Rattle.book_seq.proofs.chunk.Chunk.cut.Given as goal

abbrev pub invariant-loop-round : goal.invariant-loop-round
invariant-loop-round g l = record {
  within : l.low ≤ l.high;
  bound : l.high ≤ length l.self.entries;
  before : (k : ℕ) (d : g.row.E.Denot) → k < l.low → g.T.Test.is_passed l.test (get_or l.self.entries k d) ≡ true;
  others : (k : ℕ) (d : g.row.E.Denot) → l.high ≤ k → k < length l.self.entries
      → g.T.Test.is_passed l.test (get_or l.self.entries k d) ≡ false;
  narrow : l.high - l.low < 2 ^ (10 - l._round);
  steps : l.steps ≤ l.fn.steps + l._round;
}
