-- The changes of one edit more are made.
use Rattle.std.proofs.Common.{◌≡◌, ℕ, ◌+◌, ◌-◌, ◌<◌, List, length, drop, flat_map, ap, subst, sym, ◌∙◌, arith}
use Rattle.book_commodity.proofs.ListLemmas.{from-item}
use Rattle.book_undo.specs.Book.{book_of}
use Rattle.book_undo.specs.Edit.{leaves}
use Rattle.book_undo.specs.declared.edit.Edit.{Edit}
use Rattle.book_history.specs.Passes.{freed}
use Rattle.book_history.proofs.PassLaws.{freed-append}
use Rattle.book_history.proofs.passing.+freeing.Goals as goal

pub free_all-loop-place-preserved : goal.free_all-loop-place-preserved
free_all-loop-place-preserved t c =
    let parts = c.args.parts.now in
    let before = book_of c.args.plain.now in
    let place : ℕ = c.loop-place.place - 1 in
    let more : c.loop-place.place ≡ place + 1 = omega arith in
    let below : place < length parts = omega (arith, c.loop-place.auto.place, c.loop-place-test.true) in
    let part = c.index-parts-place.result in
    let rest : List Edit = drop (place + 1) parts in
    record {
      book =
          c.in_ok-standing.ensures.book
          ∙ ap (freed (leaves part)) (subst
          (λ (k : ℕ). book_of c.loop-place.plain ≡ freed (flat_map leaves (drop k parts)) before) more
          c.loop-place.invariant.book)
          ∙ sym (freed-append (leaves part) (flat_map leaves rest) before)
          ∙ ap (λ (edits : List Edit). freed (flat_map leaves edits) before)
          (sym (from-item parts place part below c.index-parts-place.is));
      known = c.in_ok-standing.ensures.known;
    }
