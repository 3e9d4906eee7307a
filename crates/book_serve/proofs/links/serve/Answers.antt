use Rattle.std.proofs.Common.{◌≡◌, ◌<◌, refl, ◌∙◌, arith}
use Rattle.book_serve.specs.Served.{server_state, link_reports}
use Rattle.book_serve.specs.declared.serve_end.ServeEnd.TheVariants.{PortFault}
use Rattle.book_serve.proofs.ServedLemmas.{HasCounted-nil, HasCounted-step, IsServing-most, IsServing-ended}
use Rattle.book_serve.proofs.links.serve.Goals as goal

pub links-init : goal.links-init
links-init g c =
    let of = link_reports g.P.L.Source.left g.P.L.Sink.written g.P.L.Source.faults g.P.L.Sink.faults in
    let start = server_state c.args.machine.now (g.M.Responder.faults c.args.keeper.now)
    (g.P.Ports.coming c.args.ports.now)
    (g.P.Ports.closed c.args.ports.now) (g.P.Ports.accepted_links c.args.ports.now)
    (g.P.Ports.port_given c.args.ports.now) in record {
      served = HasCounted-nil g.M.Responder.answers of c.args.port start;
      few = omega arith;
      open_links = refl;
      quiet = refl;
      stands = c.requires;
      follows = g.met.M.Responder.follows_itself c.args.keeper.now;
    }

pub links-preserved : goal.links-preserved
links-preserved g c =
    let of = link_reports g.P.L.Source.left g.P.L.Sink.written g.P.L.Source.faults g.P.L.Sink.faults in
    let start = server_state c.args.machine.now (g.M.Responder.faults c.args.keeper.now)
    (g.P.Ports.coming c.args.ports.now)
    (g.P.Ports.closed c.args.ports.now) (g.P.Ports.accepted_links c.args.ports.now)
    (g.P.Ports.port_given c.args.ports.now) in
    let now = server_state c.links.machine (g.M.Responder.faults c.links.keeper) (g.P.Ports.coming c.links.ports)
    (g.P.Ports.closed c.links.ports) (g.P.Ports.accepted_links c.links.ports) (g.P.Ports.port_given c.links.ports) in
    let e = c.serve_next_link.new in
    let then' = server_state e.machine (g.M.Responder.faults e.keeper) (g.P.Ports.coming e.ports)
    (g.P.Ports.closed e.ports) (g.P.Ports.accepted_links e.ports) (g.P.Ports.port_given e.ports) in record {
      served = HasCounted-step g.M.Responder.answers of c.args.port start now then' c.links.count
          c.links.invariant.served c.in_default.ensures.served;
      few = let more = c.links-test.true in omega (arith, more);
      open_links = c.serve_next_link.ensures.open_links ∙ c.links.invariant.open_links;
      quiet = c.serve_next_link.ensures.port_faults.same (c.in_default.not-Err PortFault) ∙ c.links.invariant.quiet;
      stands = c.serve_next_link.ensures.stands;
      follows = g.met.M.Responder.follows_through _ _ _ c.links.invariant.follows c.serve_next_link.ensures.follows;
    }

-- the next link ends the serving
pub returns-in-Err-clause-served : goal.returns-in-Err-clause-served
returns-in-Err-clause-served g c =
    let of = link_reports g.P.L.Source.left g.P.L.Sink.written g.P.L.Source.faults g.P.L.Sink.faults in
    let start = server_state c.args.machine.now (g.M.Responder.faults c.args.keeper.now)
    (g.P.Ports.coming c.args.ports.now)
    (g.P.Ports.closed c.args.ports.now) (g.P.Ports.accepted_links c.args.ports.now)
    (g.P.Ports.port_given c.args.ports.now) in
    let now = server_state c.links.machine (g.M.Responder.faults c.links.keeper) (g.P.Ports.coming c.links.ports)
    (g.P.Ports.closed c.links.ports) (g.P.Ports.accepted_links c.links.ports) (g.P.Ports.port_given c.links.ports) in
    let e = c.serve_next_link.new in
    let then' = server_state e.machine (g.M.Responder.faults e.keeper) (g.P.Ports.coming e.ports)
    (g.P.Ports.closed e.ports) (g.P.Ports.accepted_links e.ports) (g.P.Ports.port_given e.ports) in
    let few : c.links.count < c.args.links = let more = c.links-test.true in omega (arith, more) in
    IsServing-ended g.M.Responder.answers of c.args.links c.args.port start now then' c.links.count c.in-Err.end few
    c.links.invariant.served c.in-Err.ensures.ended

-- as many links were served as were asked for
pub returns-clause-served : goal.returns-clause-served
returns-clause-served g c =
    let of = link_reports g.P.L.Source.left g.P.L.Sink.written g.P.L.Source.faults g.P.L.Sink.faults in
    let start = server_state c.args.machine.now (g.M.Responder.faults c.args.keeper.now)
    (g.P.Ports.coming c.args.ports.now)
    (g.P.Ports.closed c.args.ports.now) (g.P.Ports.accepted_links c.args.ports.now)
    (g.P.Ports.port_given c.args.ports.now) in
    let now = server_state c.links.machine (g.M.Responder.faults c.links.keeper) (g.P.Ports.coming c.links.ports)
    (g.P.Ports.closed c.links.ports) (g.P.Ports.accepted_links c.links.ports) (g.P.Ports.port_given c.links.ports) in
    let full : c.links.count ≡ c.args.links =
    let done = c.links-test.false in
    let few = c.links.invariant.few in omega (arith, done, few) in
    IsServing-most g.M.Responder.answers of c.args.links c.args.port start now c.links.count
    c.links.invariant.served full
