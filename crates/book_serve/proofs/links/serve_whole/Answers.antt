use Rattle.std.proofs.Common.{[], sym, subst}
use Rattle.std.specs.Io.KnownBytes.{Keeps}
use Rattle.book_keeper.specs.Stream.{Wrote}
use Rattle.book_lines.specs.RunClause.{at}
use Rattle.book_serve.proofs.CallerLemmas.{IsServed-map, same_answers}
use Rattle.book_serve.proofs.links.serve_whole.Goals as goal

pub returns-clause-served : goal.returns-clause-served
returns-clause-served g c =
    let link = c.args.link in
    let back = c.join.result in
    let old = at c.args.machine.now (g.L.Output.Sink.written c.part-input.result.1)
    (g.M.Responder.faults c.args.keeper.now) in
    let new = at c.serve_link-end.new.machine (g.L.Output.Sink.written c.serve_link-end.new.output)
    (g.M.Responder.faults c.serve_link-end.new.keeper) in
    IsServed-map g.M.Responder.answers g.M.Responder.answers (λ s. s) (same_answers g.M.Responder.answers)
    (g.L.Sink.written link) (g.L.Sink.written back) old new 1000000 []
    (g.L.Input.Source.left c.part-input.result.0) (g.L.Input.Source.left c.serve_link-end.new.input)
    (g.L.Source.left link) (g.L.Source.left back) c.serve_link-end.result
    (subst (λ side. Keeps (g.L.Source.left link) (g.L.Input.Source.left side)) (sym c.part-input.ensures.input)
    (g.met.L.Link.reads link))
    (subst (λ side. Keeps (g.L.Source.left back) (g.L.Input.Source.left side)) c.join.ensures.input
    (g.met.L.Link.reads back))
    (λ text wrote. g.met.L.Link.writes link back text
    (subst (λ side. Wrote (g.L.Output.Sink.written (g.L.Link.write_side link)) (g.L.Output.Sink.written side) text)
    (sym c.join.ensures.output)
    (subst (λ side. Wrote (g.L.Output.Sink.written side) (g.L.Output.Sink.written c.serve_link-end.new.output) text)
    c.part-input.ensures.output wrote))) c.serve_link-end.ensures.served
