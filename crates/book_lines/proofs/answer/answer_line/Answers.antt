use Rattle.std.proofs.Common.{◌≡◌, ◌∙◌, sym, false}
use Rattle.std.proofs.lemmas.Result.{on_ok_weaker, on_err_weaker}
use Rattle.book_lines.specs.Lines.{is_blank}
use Rattle.book_lines.specs.Loop.{answer_of}
use Rattle.book_lines.proofs.RoomLemmas.{blank_is}
use Rattle.book_lines.proofs.AnswerLemmas.{HasAnswered-line, HasBroken-line}
use Rattle.book_lines.proofs.answer.answer_line.Goals as goal

pub returns-clause-answered : goal.returns-clause-answered
returns-clause-answered g c =
    on_ok_weaker c.write_answer.result
    (λ wrote this is.
    let sent : is_blank this ≡ false = sym (blank_is c.args.line.now this is) ∙ sym c.is_blank.ensures
    ∙ c.if-is_blank.false in
    HasAnswered-line g.M.Machine.answers c.args.machine.now this
    (answer_of c.ask-answered.result) c.ask-answered.new.machine
    (g.M.Machine.faults c.args.keeper.now) (g.M.Machine.faults c.ask-answered.new.keeper)
    (g.O.Sink.written c.args.output.now) (g.O.Sink.written c.write_answer.new.output)
    (c.ask-answered.ensures.gave this is) sent wrote) c.write_answer.ensures.all

pub returns-clause-broken : goal.returns-clause-broken
returns-clause-broken g c =
    on_err_weaker c.write_answer.result
    (λ cut this is.
    let sent : is_blank this ≡ false = sym (blank_is c.args.line.now this is) ∙ sym c.is_blank.ensures
    ∙ c.if-is_blank.false in
    HasBroken-line g.M.Machine.answers c.args.machine.now this
    (answer_of c.ask-answered.result) c.ask-answered.new.machine
    (g.M.Machine.faults c.args.keeper.now) (g.M.Machine.faults c.ask-answered.new.keeper)
    (g.O.Sink.written c.args.output.now) (g.O.Sink.written c.write_answer.new.output)
    (c.ask-answered.ensures.gave this is) sent cut) c.write_answer.ensures.part
