use Rattle.std.proofs.Common.{◌≡◌, ◌^◌, ◌<◌, ◌≤◌, ◌∙◌, sym, subst, length, arith}
use Rattle.book_lines.specs.Loop.{answer_of, GaveAnswer}
use Rattle.book_lines.proofs.RoomLemmas.{front_is, size_is, front_of-short}
use Rattle.book_lines.proofs.AnswerLemmas.{gave, gave-memory}
use Rattle.book_lines.proofs.answer.ask.Goals as goal

pub returns-then-size-clause-gave : goal.returns-then-size-clause-gave
returns-then-size-clause-gave g c this is =
    let size = size_is c.args.line.now this is in
    let short : length this ≤ 2 ^ 23 = omega (arith, c.size.ensures, c.if-size.true, size) in
    let line : c.bytes.result.now ≡ this = c.bytes.ensures.value ∙ front_is c.args.line.now this is
    ∙ front_of-short this short in
    let e = c.answer.ensures in
    subst (λ l. GaveAnswer g.M.Machine.answers c.args.machine.now l (answer_of c.answer.result) c.answer.new.self
    (g.M.Machine.faults c.args.keeper.now) (g.M.Machine.faults c.answer.new.keeper)) line
    (gave g.M.Machine.answers c.args.machine.now c.bytes.result.now c.answer.result c.answer.new.self
    (g.M.Machine.faults c.args.keeper.now)
    (g.M.Machine.faults c.answer.new.keeper) e.answered e.memory e.keeper e.later)

pub returns-in-Err-clause-gave : goal.returns-in-Err-clause-gave
returns-in-Err-clause-gave g c this is =
    let size = size_is c.args.line.now this is in
    let long : length this ≡ c.size-2.result = sym size ∙ sym c.size-2.ensures in
    let past : 2 ^ 23 < length this = omega (arith, size, c.size.ensures, c.if-size.false) in
    gave-memory g.M.Machine.answers c.args.machine.now this c.args.machine.now (g.M.Machine.faults c.args.keeper.now)
    (g.M.Machine.faults c.args.keeper.now)
    (c.in-Err.ensures.memory this long past) (omega arith)
