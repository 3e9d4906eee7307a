use Rattle.book_serve.specs.Served.{server_state, link_reports}
use Rattle.book_serve.proofs.ServedLemmas.{served_link}
use Rattle.book_serve.proofs.links.serve_next_link.Goals as goal

-- the link ended for want of memory
pub returns-in-OutOfMemory-clause-ended : goal.returns-in-OutOfMemory-clause-ended
returns-in-OutOfMemory-clause-ended g c =
    let of = link_reports g.P.L.Source.left g.P.L.Sink.written g.P.L.Source.faults g.P.L.Sink.faults in
    let start = server_state c.args.machine.now (g.M.Responder.faults c.args.keeper.now)
    (g.P.Ports.coming c.args.ports.now)
    (g.P.Ports.closed c.args.ports.now) (g.P.Ports.accepted_links c.args.ports.now)
    (g.P.Ports.port_given c.args.ports.now) in
    let w = c.serve_whole-link in
    let then' = server_state w.new.machine (g.M.Responder.faults w.new.keeper) (g.P.Ports.coming c.close.new.self)
    (g.P.Ports.closed c.close.new.self) (g.P.Ports.accepted_links c.close.new.self)
    (g.P.Ports.port_given c.close.new.self) in
    let is = c.in-Ok-Some.field-0-is in
    let given = c.accept.new.self in (
      record { accepted = c.in-Ok-Some.link; closed = w.result.0; end = w.result.1 },
      served_link g.M.Responder.answers of c.args.port start then'
          (record { accepted = c.in-Ok-Some.link; closed = w.result.0; end = w.result.1 }) (g.P.Ports.coming given)
          (g.P.Ports.closed given) (g.P.Ports.accepted_links given) (g.P.Ports.port_given given)
          (rw is at c.in-Ok-Some.ensures.unwritten) (rw is at c.in-Ok-Some.ensures.no_read_fault)
          (rw is at c.in-Ok-Some.ensures.no_write_fault) w.ensures.served w.ensures.read_faults
          w.ensures.write_faults (rw is at c.in-Ok-Some.ensures.first) c.close.ensures.coming
          c.in-Ok-Some.ensures.closed c.close.ensures.closed (rw is at c.in-Ok-Some.ensures.accepted)
          c.close.ensures.accepted (rw is at c.in-Ok-Some.ensures.port) c.close.ensures.port,
      c.in-OutOfMemory.is,
    )

-- the link ended otherwise
pub returns-in_default-clause-served : goal.returns-in_default-clause-served
returns-in_default-clause-served g c =
    let of = link_reports g.P.L.Source.left g.P.L.Sink.written g.P.L.Source.faults g.P.L.Sink.faults in
    let start = server_state c.args.machine.now (g.M.Responder.faults c.args.keeper.now)
    (g.P.Ports.coming c.args.ports.now)
    (g.P.Ports.closed c.args.ports.now) (g.P.Ports.accepted_links c.args.ports.now)
    (g.P.Ports.port_given c.args.ports.now) in
    let w = c.serve_whole-link in
    let then' = server_state w.new.machine (g.M.Responder.faults w.new.keeper) (g.P.Ports.coming c.close.new.self)
    (g.P.Ports.closed c.close.new.self) (g.P.Ports.accepted_links c.close.new.self)
    (g.P.Ports.port_given c.close.new.self) in
    let is = c.in-Ok-Some.field-0-is in
    let given = c.accept.new.self in (
      record { accepted = c.in-Ok-Some.link; closed = w.result.0; end = w.result.1 },
      served_link g.M.Responder.answers of c.args.port start then'
          (record { accepted = c.in-Ok-Some.link; closed = w.result.0; end = w.result.1 }) (g.P.Ports.coming given)
          (g.P.Ports.closed given) (g.P.Ports.accepted_links given) (g.P.Ports.port_given given)
          (rw is at c.in-Ok-Some.ensures.unwritten) (rw is at c.in-Ok-Some.ensures.no_read_fault)
          (rw is at c.in-Ok-Some.ensures.no_write_fault) w.ensures.served w.ensures.read_faults
          w.ensures.write_faults (rw is at c.in-Ok-Some.ensures.first) c.close.ensures.coming
          c.in-Ok-Some.ensures.closed c.close.ensures.closed (rw is at c.in-Ok-Some.ensures.accepted)
          c.close.ensures.accepted (rw is at c.in-Ok-Some.ensures.port) c.close.ensures.port,
      c.in_default.not-OutOfMemory,
    )
