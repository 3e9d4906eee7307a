use Rattle.std.proofs.Common.{List, Ok, ap, sym, ◌∙◌, ◌+◌, drop, flat_map}
use Rattle.book_commodity.proofs.ListLemmas.{from-item}
use Rattle.book_undo.specs.Edit.{leaves}
use Rattle.book_undo.specs.EditRules.{walked}
use Rattle.book_undo.specs.declared.edit.Edit.{Edit}
use Rattle.book_undo.proofs.PartLaws.{walked-part, walked-parts}
use Rattle.book_undo.proofs.order.Walk.+order.Goals as goal

pub along_all-returns-in-Err : goal.along_all-returns-in-Err
along_all-returns-in-Err t c =
    let more : List Edit = drop (c.loop-part.part-index + 1) c.args.parts.now in
    sym (c.loop-part.invariant
    ∙ ap (λ (parts : List Edit). walked (Ok c.loop-part.walk) (flat_map leaves parts))
    (from-item c.args.parts.now c.loop-part.part-index c.part-item.result c.loop-part-test.true c.part-item.is)
    ∙ walked-part c.loop-part.walk c.part-item.result more c.in-Err.place c.in-Err.ensures)

pub along_all-loop-part-preserved : goal.along_all-loop-part-preserved
along_all-loop-part-preserved t c =
    let more : List Edit = drop (c.loop-part.part-index + 1) c.args.parts.now in
    c.loop-part.invariant
    ∙ ap (λ (parts : List Edit). walked (Ok c.loop-part.walk) (flat_map leaves parts))
    (from-item c.args.parts.now c.loop-part.part-index c.part-item.result c.loop-part-test.true c.part-item.is)
    ∙ walked-parts c.loop-part.walk c.in-Ok.next c.part-item.result more c.in-Ok.ensures
