use Rattle.std.proofs.Common.{List, ap, sym, ◌∙◌, ◌+◌, drop, flat_map}
use Rattle.book_commodity.proofs.ListLemmas.{from-item}
use Rattle.book_undo.specs.Book.{book_of}
use Rattle.book_undo.specs.Edit.{leaves}
use Rattle.book_undo.specs.EditRules.{first_missing}
use Rattle.book_undo.specs.declared.edit.Edit.{Edit}
use Rattle.book_undo.proofs.PartLaws.{missing-part, missing-parts}
use Rattle.book_undo.proofs.plain.Plain.+missing.Goals as goal

pub missing_among-returns-then-is_some : goal.missing_among-returns-then-is_some
missing_among-returns-then-is_some t c =
    let b = book_of c.args.self.now in
    let more : List Edit = drop (c.loop-part.part-index + 1) c.args.parts.now in
    sym (c.loop-part.invariant
    ∙ ap (λ (parts : List Edit). first_missing b (flat_map leaves parts))
    (from-item c.args.parts.now c.loop-part.part-index c.part-item.result c.loop-part-test.true c.part-item.is)
    ∙ missing-part b c.part-item.result more c.missing-found.result c.missing-found.ensures cc)

pub missing_among-loop-part-preserved : goal.missing_among-loop-part-preserved
missing_among-loop-part-preserved t c =
    let b = book_of c.args.self.now in
    let more : List Edit = drop (c.loop-part.part-index + 1) c.args.parts.now in
    c.loop-part.invariant
    ∙ ap (λ (parts : List Edit). first_missing b (flat_map leaves parts))
    (from-item c.args.parts.now c.loop-part.part-index c.part-item.result c.loop-part-test.true c.part-item.is)
    ∙ missing-parts b c.part-item.result more c.missing-found.result c.missing-found.ensures cc
