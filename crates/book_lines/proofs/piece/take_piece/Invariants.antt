-- The part of the piece before the rest has been taken; the rest grows shorter.
use Rattle.std.proofs.Common.{◌≡◌, ℕ, ◌+◌, ◌^◌, ◌<◌, ◌≤◌, List, ◌++◌, length}
use Rattle.book_lines.specs.Lines.{rest_line}
use Rattle.book_lines.specs.Room.{seen}
use Rattle.book_lines.specs.RunClause.{at}
use Rattle.book_lines.specs.Loop.{HasTaken}
use Rattle.book_lines.proofs.piece.take_piece.Given as goal

abbrev pub invariant-lines : goal.invariant-lines
invariant-lines g l = record {
  taken : (part : List ℕ) × (l.piece ≡ part ++ l.rest)
      × ((begun : List ℕ) → l.fn.line ≡ seen begun → l.fn.count + length (rest_line begun) ≤ 1000000
      → HasTaken g.M.Machine.answers begun part
      (at l.fn.machine (g.O.Sink.written l.fn.output) (g.M.Machine.faults l.fn.keeper))
      (at l.machine (g.O.Sink.written l.output) (g.M.Machine.faults l.keeper)) l.line l.fn.count l.count);
  fits : l.line.size + length l.rest < 2 ^ 64;
  quiet : g.O.Sink.faults l.output ≡ g.O.Sink.faults l.fn.output;
  stands : g.M.Machine.stands l.machine l.keeper;
  follows : g.M.Machine.follows l.fn.keeper l.keeper;
}

abbrev pub decreases-lines : goal.decreases-lines
decreases-lines g l = length l.rest
