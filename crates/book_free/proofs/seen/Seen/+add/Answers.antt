-- What is said by a part, and then by those behind it.
use Rattle.std.proofs.Common.{◌+◌, List, ap, drop, flat_map, sym, ◌∙◌}
use Rattle.book_commodity.proofs.ListLemmas.{from-item}
use Rattle.book_undo.specs.Book.{book_of}
use Rattle.book_undo.specs.Edit.{leaves}
use Rattle.book_undo.specs.declared.edit.Edit.{Edit}
use Rattle.book_free.specs.Seen.{seen_after}
use Rattle.book_free.proofs.NotedLemmas.{seen_append}
use Rattle.book_free.proofs.seen.Seen.+add.Goals as goal

pub add_all-loop-part-preserved : goal.add_all-loop-part-preserved
add_all-loop-part-preserved t c =
    let book = book_of c.args.plain.now in
    let parts = c.args.parts.now in
    let item = c.part-item.result in
    let next : List Edit = drop (c.loop-part.part-index + 1) parts in
    ap (seen_after book (flat_map leaves next)) c.in_ok-add.ensures
    ∙ sym (seen_append book (leaves item) (flat_map leaves next) c.loop-part.self)
    ∙ sym (ap (λ (es : List Edit). seen_after book (flat_map leaves es) c.loop-part.self)
    (from-item parts c.loop-part.part-index item c.loop-part-test.true c.part-item.is))
    ∙ c.loop-part.invariant
