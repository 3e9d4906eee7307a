-- So many requests were answered, with no fault; fewer are left to be answered each time.
use Rattle.std.proofs.Common.{◌≡◌, ◌-◌, ◌≤◌}
use Rattle.book_lines.specs.RunClause.{at}
use Rattle.book_serve.specs.Serving.{HasServed}
use Rattle.book_serve.proofs.serving.serve_link.Given as goal

abbrev pub invariant-requests : goal.invariant-requests
invariant-requests g l = record {
  served : HasServed g.M.Responder.answers l.inbox (g.S.Source.left l.fn.input) (g.S.Source.left l.input)
      (at l.fn.machine (g.O.Sink.written l.fn.output) (g.M.Responder.faults l.fn.keeper))
      (at l.machine (g.O.Sink.written l.output) (g.M.Responder.faults l.keeper)) l.count;
  few : l.count ≤ 1000000;
  input : g.S.Source.faults l.input ≡ g.S.Source.faults l.fn.input;
  output : g.O.Sink.faults l.output ≡ g.O.Sink.faults l.fn.output;
  stands : g.M.Responder.stands l.machine l.keeper;
  follows : g.M.Responder.follows l.fn.keeper l.keeper;
}

abbrev pub decreases-requests : goal.decreases-requests
decreases-requests g l = 1000000 - l.count
