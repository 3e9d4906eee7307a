-- What was read so far has been taken, with no fault; fewer bytes may be read each time.
use Rattle.std.proofs.Common.{◌≡◌, ℕ, ◌-◌, ◌^◌, ◌≤◌, List, [], length}
use Rattle.std.specs.Io.KnownBytes.{Consumes}
use Rattle.book_lines.specs.RunClause.{at}
use Rattle.book_lines.specs.Loop.{HasTaken}
use Rattle.book_lines.proofs.running.run_pieces.Given as goal

abbrev pub invariant-pieces : goal.invariant-pieces
invariant-pieces g l = record {
  taken : (read : List ℕ) × Consumes (g.S.Source.left l.fn.input) (g.S.Source.left l.input) read
      × (length read ≡ l.taken)
      × HasTaken g.M.Machine.answers [] read
      (at l.fn.machine (g.O.Sink.written l.fn.output) (g.M.Machine.faults l.fn.keeper))
      (at l.machine (g.O.Sink.written l.output) (g.M.Machine.faults l.keeper)) l.line 0 l.count;
  fits : l.taken ≤ 2 ^ 33;
  input : g.S.Source.faults l.input ≡ g.S.Source.faults l.fn.input;
  output : g.O.Sink.faults l.output ≡ g.O.Sink.faults l.fn.output;
  stands : g.M.Machine.stands l.machine l.keeper;
  follows : g.M.Machine.follows l.fn.keeper l.keeper;
}

abbrev pub decreases-pieces : goal.decreases-pieces
decreases-pieces g l = 2 ^ 33 - l.taken
