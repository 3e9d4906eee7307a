use Rattle.std.proofs.Common.{rules, Result, IfSome, subst}
use Rattle.std.proofs.lemmas.Result.{IfOk-weaker}
use Rattle.book_command.specs.declared.command.Command.{Command}
use Rattle.book_command.specs.declared.wire_error.WireError.{WireError}
use Rattle.book_lines.specs.Marks.{IsAnswer}
use Rattle.book_engine.specs.Books.{machine_kept}
use Rattle.book_wire.specs.Asked.{Asks, LineAsks, IsRead, asked_of_fault}
use Rattle.book_app.specs.Machine.{Replies}
use Rattle.book_app.proofs.ReplyLemmas.{handed_on, replies-fault}
use Rattle.book_app.proofs.reply.answer_to.Goals as goal

pub returns-in-Ok-clause-answered : goal.returns-in-Ok-clause-answered
returns-in-Ok-clause-answered g c =
    let read : LineAsks c.args.line.now (Asks c.in-Ok.command) = subst
    (λ (r : Result Command WireError). IsRead c.args.line.now r) c.in-Ok.is c.command_of.ensures in
    IfOk-weaker c.reply.result _ _
    (λ text h. (h.0, record { asked = Asks c.in-Ok.command; read = read; reply = h.1 }))
    c.reply.ensures.answered

pub returns-in-Ok-clause-changes : goal.returns-in-Ok-clause-changes
returns-in-Ok-clause-changes g c = λ failed.
    record {
      command = c.in-Ok.command;
      read = subst (λ (r : Result Command WireError). IsRead c.args.line.now r) c.in-Ok.is c.command_of.ensures;
      change = c.reply.ensures.changes failed;
    }

pub returns-in-Err : goal.returns-in-Err
returns-in-Err g c =
    let state = machine_kept c.args.engine.now in
    let read : IfSome (asked_of_fault c.in-Err.fault) (LineAsks c.args.line.now) = subst
    (λ (r : Result Command WireError). IsRead c.args.line.now r) c.in-Err.is c.command_of.ensures in
    record {
      answered = handed_on (λ text. IsAnswer text × Replies state c.args.line.now text state) c.wire_text.result
          c.answered.result c.answered.ensures.text
          (replies-fault state c.args.line.now c.in-Err.fault c.wire_text.result read c.wire_text.ensures);
      kept = search rules;
      changes = search rules;
      failed = search rules;
      later = search rules;
      stands = search rules;
      follows = search rules;
    }
