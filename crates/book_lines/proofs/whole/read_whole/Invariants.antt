-- What was read so far stands in the room, with no fault; fewer bytes may be read each time.
use Rattle.std.proofs.Common.{◌≡◌, ◌+◌, ◌-◌, ◌^◌, ◌≤◌}
use Rattle.book_lines.specs.WholeClause.{HasRead}
use Rattle.book_lines.proofs.whole.read_whole.Given as goal

abbrev pub invariant-pieces : goal.invariant-pieces
invariant-pieces g l = record {
  read : HasRead (g.S.Source.left l.fn.input) (g.S.Source.left l.input) l.line;
  taken : l.line.size ≡ l.taken;
  fits : l.taken ≤ 2 ^ 23 + 1;
  quiet : g.S.Source.faults l.input ≡ g.S.Source.faults l.fn.input;
}

abbrev pub decreases-pieces : goal.decreases-pieces
decreases-pieces g l = 2 ^ 23 + 1 - l.taken
