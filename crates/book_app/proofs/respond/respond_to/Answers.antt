use Rattle.std.proofs.Common.{rules, Result, IfSome, subst}
use Rattle.book_command.specs.declared.command.Command.{Command}
use Rattle.book_command.specs.declared.wire_error.WireError.{WireError}
use Rattle.book_requests.specs.Requests.{RequestAsks, IsRequestRead}
use Rattle.book_wire.specs.Asked.{Asks, asked_of_fault}
use Rattle.book_app.proofs.ResponseLemmas.{command_response, fault_response}
use Rattle.book_app.proofs.respond.respond_to.Goals as goal

pub returns-in-Ok-clause-answered : goal.returns-in-Ok-clause-answered
returns-in-Ok-clause-answered g c =
    let read : RequestAsks c.args.request.now (Asks c.in-Ok.command) = subst
    (λ (r : Result Command WireError). IsRequestRead c.args.request.now r) c.in-Ok.is c.command_of_request.ensures in
    command_response c.respond_to_command.result c.args.engine.now c.respond_to_command.new.engine c.args.request.now
    c.in-Ok.command read c.respond_to_command.ensures.answered

pub returns-in-Ok-clause-changes : goal.returns-in-Ok-clause-changes
returns-in-Ok-clause-changes g c = λ failed.
    record {
      command = c.in-Ok.command;
      read = subst (λ (r : Result Command WireError). IsRequestRead c.args.request.now r) c.in-Ok.is
          c.command_of_request.ensures;
      change = c.respond_to_command.ensures.changes failed;
    }

pub returns-in-Err : goal.returns-in-Err
returns-in-Err g c =
    let read : IfSome (asked_of_fault c.in-Err.fault) (RequestAsks c.args.request.now) = subst
    (λ (r : Result Command WireError). IsRequestRead c.args.request.now r) c.in-Err.is c.command_of_request.ensures in
    record {
      answered = fault_response c.wire_text.result c.response.result c.responded.result c.args.engine.now
          c.args.request.now c.in-Err.fault read c.responded.ensures.bytes c.response.ensures c.wire_text.ensures;
      kept = search rules;
      changes = search rules;
      failed = search rules;
      later = search rules;
      stands = search rules;
      follows = search rules;
    }
