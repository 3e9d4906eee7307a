-- What was written so far and the rest are all the bytes; the rest grows shorter, and no call has failed.
use Rattle.std.proofs.Common.{◌≡◌, ℕ, List, ◌++◌, length}
use Rattle.book_keeper.specs.Stream.{Wrote}
use Rattle.book_keeper.proofs.writing.write_all.Given as goal

abbrev pub invariant-loop-rest : goal.invariant-loop-rest
invariant-loop-rest g l = record {
  fed : (part : List ℕ) × (l.bytes ≡ part ++ l.rest)
      × Wrote (g.O.Sink.written l.fn.output) (g.O.Sink.written l.output) part;
  quiet : g.O.Sink.faults l.output ≡ g.O.Sink.faults l.fn.output;
}

abbrev pub decreases-loop-rest : goal.decreases-loop-rest
decreases-loop-rest g l = length l.rest
