use Rattle.std.proofs.lemmas.Result.{IfErr-weaker}
use Rattle.book_lines.specs.RunClause.{at}
use Rattle.book_serve.specs.Link.{IsServed}
use Rattle.book_serve.specs.Serving.{EndsByRequest}
use Rattle.book_serve.proofs.StatusLemmas.{refused_answered}
use Rattle.book_serve.proofs.ServingLemmas.{step_last, step_refused, step_end, step_cut, step_failed, step_stopped}
use Rattle.book_serve.proofs.serving.serve_next.Goals as goal

pub refuse-requires : goal.refuse-requires
refuse-requires g c =
    let next = rw c.in-Ok-Refused.field-0-is at c.in-Ok-Refused.ensures.next in
    refused_answered _ c.in-Ok-Refused.status next.next.0

pub returns-in-Ok-Request-clause-ended : goal.returns-in-Ok-Request-clause-ended
returns-in-Ok-Request-clause-ended g c =
    let old = at c.args.machine.now (g.O.Sink.written c.args.output.now) (g.M.Responder.faults c.args.keeper.now) in
    let new = at c.answer_request.new.machine (g.O.Sink.written c.answer_request.new.output)
    (g.M.Responder.faults c.answer_request.new.keeper) in
    IfErr-weaker c.answer_request.result (EndsByRequest g.M.Responder.answers old c.in-Ok-Request.request new)
    (IsServed g.M.Responder.answers 1 c.args.inbox.now (g.S.Source.left c.args.input.now)
    (g.S.Source.left c.next_request.new.link) old new)
    (λ end h. step_last g.M.Responder.answers c.args.inbox.now c.next_request.new.inbox
    (g.S.Source.left c.args.input.now) (g.S.Source.left c.next_request.new.link) c.in-Ok-Request.request old new end
    (rw c.in-Ok-Request.field-0-is at c.in-Ok-Request.ensures.next) h) c.answer_request.ensures.ended

pub returns-in-Ok-Refused-clause-ended : goal.returns-in-Ok-Refused-clause-ended
returns-in-Ok-Refused-clause-ended g c =
    step_refused g.M.Responder.answers c.args.inbox.now c.next_request.new.inbox (g.S.Source.left c.args.input.now)
    (g.S.Source.left c.next_request.new.link) c.in-Ok-Refused.status c.args.machine.now
    (g.O.Sink.written c.args.output.now) (g.O.Sink.written c.refuse.new.output)
    (g.M.Responder.faults c.args.keeper.now) c.refuse.result
    (rw c.in-Ok-Refused.field-0-is at c.in-Ok-Refused.ensures.next) c.refuse.ensures.ended

pub returns-in-Ok-End-clause-ended : goal.returns-in-Ok-End-clause-ended
returns-in-Ok-End-clause-ended g c =
    step_end g.M.Responder.answers c.args.inbox.now c.next_request.new.inbox (g.S.Source.left c.args.input.now)
    (g.S.Source.left c.next_request.new.link) c.args.machine.now (g.O.Sink.written c.args.output.now)
    (g.M.Responder.faults c.args.keeper.now) (rw c.in-Ok-End.field-0-is at c.in-Ok-End.ensures.next)

pub returns-in-Ok-Cut-clause-ended : goal.returns-in-Ok-Cut-clause-ended
returns-in-Ok-Cut-clause-ended g c =
    step_cut g.M.Responder.answers c.args.inbox.now c.next_request.new.inbox (g.S.Source.left c.args.input.now)
    (g.S.Source.left c.next_request.new.link) c.args.machine.now (g.O.Sink.written c.args.output.now)
    (g.M.Responder.faults c.args.keeper.now) (rw c.in-Ok-Cut.field-0-is at c.in-Ok-Cut.ensures.next)

pub returns-in-Err-ReadFault-clause-ended : goal.returns-in-Err-ReadFault-clause-ended
returns-in-Err-ReadFault-clause-ended g c =
    step_failed g.M.Responder.answers c.args.inbox.now c.next_request.new.inbox (g.S.Source.left c.args.input.now)
    (g.S.Source.left c.next_request.new.link) c.args.machine.now (g.O.Sink.written c.args.output.now)
    (g.M.Responder.faults c.args.keeper.now) (rw c.in-Err-ReadFault.field-0-is at c.in-Err-ReadFault.ensures.next)

pub returns-in-Err-OutOfMemory-clause-ended : goal.returns-in-Err-OutOfMemory-clause-ended
returns-in-Err-OutOfMemory-clause-ended g c =
    step_stopped g.M.Responder.answers c.args.inbox.now c.next_request.new.inbox (g.S.Source.left c.args.input.now)
    (g.S.Source.left c.next_request.new.link) c.args.machine.now (g.O.Sink.written c.args.output.now)
    (g.M.Responder.faults c.args.keeper.now) (rw c.in-Err-OutOfMemory.field-0-is at c.in-Err-OutOfMemory.ensures.next)
