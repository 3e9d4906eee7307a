use Rattle.std.proofs.Common.{◌≡◌, ◌++◌, ◌∷◌, [], List, ap, sym, ◌∙◌, subst}
use Rattle.book_register.specs.declared.entry.Entry.{Entry}
use Rattle.book_lots.specs.Sides.{AreCheckpoints, Begins, with_checkpoint}
use Rattle.book_lots.specs.declared.mark.Mark.{Mark}
use Rattle.book_lots.proofs.LotsLemmas.{begins_kept, begins_pushed, next_checkpoints, row_taken}
use Rattle.book_lots.proofs.lots.reckon_rows.Goals as goal

pub loop-place-preserved : goal.loop-place-preserved
loop-place-preserved c =
    let inv = c.loop-place.invariant in
    let es = c.loop-place.reckoning in
    let e = c.row.result in
    let marks = c.loop-place.checkpoints.items in
    let more : c.reckon.new.self ≡ es ++ e ∷ [] = c.in_ok-reckon.ensures in
    let kept : c.keep_checkpoint.new.checkpoints.items ≡ with_checkpoint (es ++ e ∷ []) marks =
    c.in_ok-keep_checkpoint.ensures.kept ∙ ap (λ (l : List Entry). with_checkpoint l marks) more in
    record {
      rows = more ∙ ap (λ (l : List Entry). l ++ e ∷ []) inv.rows
          ∙ sym (row_taken c.args.register.now.rows c.loop-place.place e c.row.ensures.row);
      marks = subst (λ (l : List Mark). AreCheckpoints c.reckon.new.self l) (sym kept)
          (subst (λ (l : List Entry). AreCheckpoints l (with_checkpoint (es ++ e ∷ []) marks)) (sym more)
          (next_checkpoints es e marks inv.marks));
      begun = subst (λ (l : List Entry). Begins c.args.reckoning.now l) (sym more)
          (begins_pushed c.args.reckoning.now es e inv.begun);
      marks_begun = subst (λ (l : List Mark). Begins c.args.checkpoints.now.items l) (sym kept)
          (begins_kept c.args.checkpoints.now.items marks (es ++ e ∷ []) inv.marks_begun);
    }
