use Rattle.std.proofs.Common.{List, ap, ◌∙◌, ◌+◌, drop, flat_map, arith}
use Rattle.book_commodity.proofs.ListLemmas.{from-item}
use Rattle.book_undo.specs.Edit.{leaves}
use Rattle.book_undo.specs.Room.{puts}
use Rattle.book_undo.specs.declared.edit.Edit.{Edit}
use Rattle.book_undo.proofs.PartLaws.{on_err, puts-parts}
use Rattle.book_undo.proofs.needs.Needs.+needs.Goals as goal

pub count_all-returns-in_err-count-clause-many : goal.count_all-returns-in_err-count-clause-many
count_all-returns-in_err-count-clause-many t c =
    let past = c.in_err-count.ensures.many in
    let kind = past.0 in
    let more : List Edit = drop (c.loop-part.part-index + 1) c.args.parts.now in
    let here = ap (λ (parts : List Edit). puts kind (flat_map leaves parts))
    (from-item c.args.parts.now c.loop-part.part-index c.part-item.result c.loop-part-test.true c.part-item.is)
    ∙ puts-parts kind c.part-item.result more in
    on_err c.from_residual.result _ (kind, omega (arith, past.1, c.loop-part.invariant kind, here))

pub count_all-loop-part-preserved : goal.count_all-loop-part-preserved
count_all-loop-part-preserved t c = λ kind.
    let more : List Edit = drop (c.loop-part.part-index + 1) c.args.parts.now in
    let here = ap (λ (parts : List Edit). puts kind (flat_map leaves parts))
    (from-item c.args.parts.now c.loop-part.part-index c.part-item.result c.loop-part-test.true c.part-item.is)
    ∙ puts-parts kind c.part-item.result more in
    omega (arith, c.in_ok-count.ensures.counted kind, c.loop-part.invariant kind, here)
