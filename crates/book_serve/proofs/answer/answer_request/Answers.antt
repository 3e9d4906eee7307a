use Rattle.std.proofs.Common.{subst, List, ℕ}
use Rattle.book_serve.specs.Serving.{response_of, GaveResponse}
use Rattle.book_serve.proofs.ServingLemmas.{gave}
use Rattle.book_serve.proofs.answer.answer_request.Goals as goal

-- the response was written, and the request closes the link
pub returns-in-Ok-clause-ended : goal.returns-in-Ok-clause-ended
returns-in-Ok-clause-ended g c =
    let e = c.respond-answered.ensures in (
      record {
        text = response_of c.args.request.close c.respond-answered.result;
        wrote = c.in-Ok.ensures.all;
        gave = gave g.M.Responder.answers c.args.machine.now c.args.request c.respond-answered.result
            c.respond-answered.new.self (g.M.Responder.faults c.args.keeper.now)
            (g.M.Responder.faults c.respond-answered.new.keeper) e.answered e.memory e.keeper e.later;
      },
      c.if-close.true,
    )

-- the response was written, and the link stays open
pub returns-in-Ok-2-clause-replied : goal.returns-in-Ok-2-clause-replied
returns-in-Ok-2-clause-replied g c =
    let e = c.respond-answered.ensures in record {
      text = response_of c.args.request.close c.respond-answered.result;
      wrote = c.in-Ok-2.ensures.all;
      gave = gave g.M.Responder.answers c.args.machine.now c.args.request c.respond-answered.result
          c.respond-answered.new.self (g.M.Responder.faults c.args.keeper.now)
          (g.M.Responder.faults c.respond-answered.new.keeper) e.answered e.memory e.keeper e.later;
    }

-- the output failed
pub returns-in-Err-clause-ended : goal.returns-in-Err-clause-ended
returns-in-Err-clause-ended g c =
    let e = c.respond-answered.ensures in
    let part = c.in-Err.ensures.part in record {
      text = part.part;
      more = part.rest;
      wrote = part.wrote;
      short = part.short;
      gave = subst (λ (bytes : List ℕ). GaveResponse g.M.Responder.answers c.args.machine.now c.args.request bytes
          c.respond-answered.new.self (g.M.Responder.faults c.args.keeper.now)
          (g.M.Responder.faults c.respond-answered.new.keeper)) part.parts
          (gave g.M.Responder.answers c.args.machine.now c.args.request c.respond-answered.result
          c.respond-answered.new.self (g.M.Responder.faults c.args.keeper.now)
          (g.M.Responder.faults c.respond-answered.new.keeper) e.answered e.memory e.keeper e.later);
    }
