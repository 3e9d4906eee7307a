use Rattle.book_lines.specs.RunClause.{at}
use Rattle.book_lines.proofs.WholeLemmas.{IsWhole-asked, IsWhole-unasked}
use Rattle.book_lines.proofs.whole.run_whole.Goals as goal

-- the input was read to its end
pub returns-in-Ok-clause-whole : goal.returns-in-Ok-clause-whole
returns-in-Ok-clause-whole g c =
    let start = at c.args.machine.now (g.O.Sink.written c.args.output.now) (g.M.Machine.faults c.args.keeper.now) in
    let now = at c.answer_whole.new.machine (g.O.Sink.written c.answer_whole.new.output)
    (g.M.Machine.faults c.answer_whole.new.keeper) in
    let read = c.in-Ok.ensures.read in
    IsWhole-asked g.M.Machine.answers (g.S.Source.left c.args.input.now) (g.S.Source.left c.read_whole.new.input)
    start now c.read_whole.new.line c.answer_whole.result read c.in-Ok.ensures.ended c.in-Ok.ensures.short
    (c.answer_whole.ensures.asked read.read read.room_is)

-- the input failed, or has more bytes than may be read
pub returns-in-Err-clause-whole : goal.returns-in-Err-clause-whole
returns-in-Err-clause-whole g c =
    IsWhole-unasked g.M.Machine.answers (g.S.Source.left c.args.input.now) (g.S.Source.left c.read_whole.new.input)
    (at c.args.machine.now (g.O.Sink.written c.args.output.now) (g.M.Machine.faults c.args.keeper.now))
    c.read_whole.new.line c.in-Err.end c.in-Err.ensures.read c.in-Err.ensures.halted
