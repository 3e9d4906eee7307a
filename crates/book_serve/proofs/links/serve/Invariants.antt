-- So many links were served, with no fault of the ports; fewer are left to be served each time.
use Rattle.std.proofs.Common.{◌≡◌, ◌-◌, ◌≤◌}
use Rattle.book_serve.specs.Served.{server_state, link_reports}
use Rattle.book_serve.proofs.ServedLemmas.{HasCounted}
use Rattle.book_serve.proofs.links.serve.Given as goal

abbrev pub invariant-links : goal.invariant-links
invariant-links g l = record {
  served : HasCounted g.M.Responder.answers
      (link_reports g.P.L.Source.left g.P.L.Sink.written g.P.L.Source.faults g.P.L.Sink.faults) l.port
      (server_state l.fn.machine (g.M.Responder.faults l.fn.keeper) (g.P.Ports.coming l.fn.ports)
      (g.P.Ports.closed l.fn.ports) (g.P.Ports.accepted_links l.fn.ports) (g.P.Ports.port_given l.fn.ports))
      (server_state l.machine (g.M.Responder.faults l.keeper) (g.P.Ports.coming l.ports) (g.P.Ports.closed l.ports)
      (g.P.Ports.accepted_links l.ports) (g.P.Ports.port_given l.ports)) l.count;
  few : l.count ≤ l.links;
  open_links : g.P.Ports.open_links l.ports ≡ g.P.Ports.open_links l.fn.ports;
  quiet : g.P.Ports.faults l.ports ≡ g.P.Ports.faults l.fn.ports;
  stands : g.M.Responder.stands l.machine l.keeper;
  follows : g.M.Responder.follows l.fn.keeper l.keeper;
}

abbrev pub decreases-links : goal.decreases-links
decreases-links g l = l.links - l.count
