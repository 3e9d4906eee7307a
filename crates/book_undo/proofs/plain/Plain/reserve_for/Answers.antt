use Rattle.std.proofs.Common.{arith}
use Rattle.book_undo.specs.declared.thing.ThingKind.TheVariants as kind
use Rattle.book_undo.proofs.PartLaws.{on_err}
use Rattle.book_undo.proofs.plain.Plain.reserve_for.Goals as goal

pub returns-in_err-reserve-clause-full : goal.returns-in_err-reserve-clause-full
returns-in_err-reserve-clause-full c =
    let needed = c.in_ok-count.ensures.counted kind.Commodity in
    on_err c.from_residual-in_err-reserve.result _
    (kind.Commodity, omega (arith, needed, c.in_err-reserve.ensures.full, c.none-needs.ensures kind.Commodity))

pub returns-in_err-reserve-2-clause-full : goal.returns-in_err-reserve-2-clause-full
returns-in_err-reserve-2-clause-full c =
    let needed = c.in_ok-count.ensures.counted kind.Account in
    on_err c.from_residual-in_err-reserve-2.result _
    (kind.Account, omega (arith, needed, c.in_err-reserve-2.ensures.full, c.none-needs.ensures kind.Account))

pub returns-in_err-reserve-3-clause-full : goal.returns-in_err-reserve-3-clause-full
returns-in_err-reserve-3-clause-full c =
    let needed = c.in_ok-count.ensures.counted kind.Txn in
    on_err c.from_residual-in_err-reserve-3.result _
    (kind.Txn, omega (arith, needed, c.in_err-reserve-3.ensures.full, c.none-needs.ensures kind.Txn))

pub returns-in_err-reserve-4-clause-full : goal.returns-in_err-reserve-4-clause-full
returns-in_err-reserve-4-clause-full c =
    let needed = c.in_ok-count.ensures.counted kind.Price in
    on_err c.from_residual-in_err-reserve-4.result _
    (kind.Price, omega (arith, needed, c.in_err-reserve-4.ensures.full, c.none-needs.ensures kind.Price))

pub returns-in_err-reserve-5-clause-full : goal.returns-in_err-reserve-5-clause-full
returns-in_err-reserve-5-clause-full c =
    let needed = c.in_ok-count.ensures.counted kind.Schedule in
    on_err c.from_residual-in_err-reserve-5.result _
    (kind.Schedule, omega (arith, needed, c.in_err-reserve-5.ensures.full, c.none-needs.ensures kind.Schedule))

pub returns-in_err-reserve-6-clause-full : goal.returns-in_err-reserve-6-clause-full
returns-in_err-reserve-6-clause-full c =
    let needed = c.in_ok-count.ensures.counted kind.Held in
    on_err c.from_residual-in_err-reserve-6.result _
    (kind.Held, omega (arith, needed, c.in_err-reserve-6.ensures.full, c.none-needs.ensures kind.Held))

pub returns-in_err-reserve-7-clause-full : goal.returns-in_err-reserve-7-clause-full
returns-in_err-reserve-7-clause-full c =
    let needed = c.in_ok-count.ensures.counted kind.Line in
    on_err c.from_residual-in_err-reserve-7.result _
    (kind.Line, omega (arith, needed, c.in_err-reserve-7.ensures.full, c.none-needs.ensures kind.Line))

pub returns-in_err-reserve-8-clause-full : goal.returns-in_err-reserve-8-clause-full
returns-in_err-reserve-8-clause-full c =
    let needed = c.in_ok-count.ensures.counted kind.Binding in
    on_err c.from_residual-in_err-reserve-8.result _
    (kind.Binding, omega (arith, needed, c.in_err-reserve-8.ensures.full, c.none-needs.ensures kind.Binding))

pub returns-in_err-reserve-9-clause-full : goal.returns-in_err-reserve-9-clause-full
returns-in_err-reserve-9-clause-full c =
    let needed = c.in_ok-count.ensures.counted kind.Recon in
    on_err c.from_residual-in_err-reserve-9.result _
    (kind.Recon, omega (arith, needed, c.in_err-reserve-9.ensures.full, c.none-needs.ensures kind.Recon))
