-- The changes of one edit less are left.
use Rattle.std.proofs.Common.{◌+◌, List, drop, flat_map, ap, sym, ◌∙◌}
use Rattle.book_commodity.proofs.ListLemmas.{from-item}
use Rattle.book_undo.specs.Book.{book_of}
use Rattle.book_undo.specs.Edit.{leaves}
use Rattle.book_undo.specs.declared.edit.Edit.{Edit}
use Rattle.book_history.specs.Passes.{changed}
use Rattle.book_history.proofs.PassLaws.{changed-append}
use Rattle.book_history.proofs.passing.+changing.Goals as goal

pub change_all-loop-part-preserved : goal.change_all-loop-part-preserved
change_all-loop-part-preserved t c =
    let parts = c.args.parts.now in
    let now = book_of c.loop-part.plain in
    let part = c.part-item.result in
    let rest : List Edit = drop (c.loop-part.part-index + 1) parts in
    record {
      book =
          ap (changed (flat_map leaves rest)) c.in_ok-standing.ensures.book
          ∙ sym (changed-append (leaves part) (flat_map leaves rest) now)
          ∙ ap (λ (edits : List Edit). changed (flat_map leaves edits) now)
          (sym (from-item parts c.loop-part.part-index part c.loop-part-test.true c.part-item.is))
          ∙ c.loop-part.invariant.book;
      known = c.in_ok-standing.ensures.known;
    }
