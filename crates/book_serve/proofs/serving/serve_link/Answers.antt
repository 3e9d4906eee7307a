use Rattle.std.proofs.Common.{◌≡◌, ℕ, ◌+◌, ◌≤◌, List, refl, ap, sym, subst, ◌∙◌, arith, Err}
use Rattle.book_lines.specs.RunClause.{at}
use Rattle.book_serve.specs.Serving.{HasServed}
use Rattle.book_serve.specs.declared.link_end.LinkEnd.TheVariants.{ReadFault, WriteFault}
use Rattle.book_serve.proofs.LinkLemmas.{IsServed-behind}
use Rattle.book_serve.proofs.ServingLemmas.{HasServed-nil, HasServed-step, HasAnsweredLink-most}
use Rattle.book_serve.proofs.serving.serve_link.Goals as goal

pub requests-init : goal.requests-init
requests-init g c =
    let start = at c.args.machine.now (g.O.Sink.written c.args.output.now) (g.M.Responder.faults c.args.keeper.now) in
    let left = g.S.Source.left c.args.input.now in record {
      served = subst (λ (inbox : List ℕ). HasServed g.M.Responder.answers inbox left left start start 0)
          (sym c.new-inbox.ensures) (HasServed-nil g.M.Responder.answers left start);
      few = omega arith;
      input = refl;
      output = refl;
      stands = c.requires;
      follows = g.met.M.Responder.follows_itself c.args.keeper.now;
    }

pub requests-preserved : goal.requests-preserved
requests-preserved g c =
    let start = at c.args.machine.now (g.O.Sink.written c.args.output.now) (g.M.Responder.faults c.args.keeper.now) in
    let now = at c.requests.machine (g.O.Sink.written c.requests.output) (g.M.Responder.faults c.requests.keeper) in
    let then' = at c.serve_next.new.machine (g.O.Sink.written c.serve_next.new.output)
    (g.M.Responder.faults c.serve_next.new.keeper) in
    let e = c.in_default.ensures in record {
      served = HasServed-step g.M.Responder.answers c.requests.inbox c.serve_next.new.inbox
          (g.S.Source.left c.args.input.now) (g.S.Source.left c.requests.input)
          (g.S.Source.left c.serve_next.new.input) start now then' c.requests.count c.requests.invariant.served
          e.stepped;
      few = let open' = c.requests-test.true in omega (arith, open');
      input = c.serve_next.ensures.read_faults.same (c.in_default.not-Err ReadFault) ∙ c.requests.invariant.input;
      output = c.serve_next.ensures.write_faults.same (c.in_default.not-Err WriteFault) ∙ c.requests.invariant.output;
      stands = e.stands;
      follows = g.met.M.Responder.follows_through _ _ _ c.requests.invariant.follows e.follows;
    }

-- the link has ended
pub returns-in-Err-clause-served : goal.returns-in-Err-clause-served
returns-in-Err-clause-served g c =
    let start = at c.args.machine.now (g.O.Sink.written c.args.output.now) (g.M.Responder.faults c.args.keeper.now) in
    let now = at c.requests.machine (g.O.Sink.written c.requests.output) (g.M.Responder.faults c.requests.keeper) in
    let then' = at c.serve_next.new.machine (g.O.Sink.written c.serve_next.new.output)
    (g.M.Responder.faults c.serve_next.new.keeper) in
    let more : c.requests.count + 1 ≤ 1000000 = let open' = c.requests-test.true in omega (arith, open') in
    IsServed-behind g.M.Responder.answers c.requests.count 1 1000000 c.requests.inbox
    (g.S.Source.left c.args.input.now) (g.S.Source.left c.requests.input) (g.S.Source.left c.serve_next.new.input)
    start now then' c.in-Err.end more
    (λ limit. c.in-Err.ensures.unlimited (ap Err limit)) c.requests.invariant.served c.in-Err.ensures.ended

-- the most requests that are answered
pub returns-clause-served : goal.returns-clause-served
returns-clause-served g c =
    let start = at c.args.machine.now (g.O.Sink.written c.args.output.now) (g.M.Responder.faults c.args.keeper.now) in
    let now = at c.requests.machine (g.O.Sink.written c.requests.output) (g.M.Responder.faults c.requests.keeper) in
    let full : c.requests.count ≡ 1000000 =
    let done = c.requests-test.false in
    let few = c.requests.invariant.few in omega (arith, done, few) in
    HasAnsweredLink-most g.M.Responder.answers c.requests.inbox (g.S.Source.left c.args.input.now)
    (g.S.Source.left c.requests.input) start now c.requests.count c.requests.invariant.served full
