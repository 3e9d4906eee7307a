use Rattle.std.proofs.Common.{◌+◌, List, [], ◌∷◌, ◌++◌, drop, ap, sym, ◌∙◌, arith}
use Rattle.book_undo.specs.declared.edit.Edit.{Edit}
use Rattle.book_sound.specs.Dismissal.{dismissing}
use Rattle.book_step.proofs.TableWalkLemmas.{dismissing-end, dismissing-here, dismissing-past}
use Rattle.book_step.proofs.dismissing.dismissing.Goals.{then-loses_split+in_ok-dismissal+in_ok-push, else-loses_split}
use Rattle.book_step.proofs.dismissing.dismissing.Goals as goal

pub loop-place-preserved : goal.loop-place-preserved
loop-place-preserved c =
    let old = c.args.old.now in
    let new = c.args.new.now in
    let lines = c.args.lines.now.entries in
    let done = c.loop-place.edits.items in
    let rest = dismissing old new (drop (c.loop-place.place + 1) lines) in
    elim c.if-loses_split.branch [
      | then-loses_split+in_ok-dismissal+in_ok-push w ↦
          ap (λ (edits : List Edit). edits ++ rest)
          (ap (λ edits. edits.items) w.edits-is ∙ w.in_ok-push.ensures.items
          ∙ ap (λ (edit : Edit). done ++ edit ∷ []) w.in_ok-dismissal.ensures)
          ∙ dismissing-here old new lines c.loop-place.place w.number_at.result c.value_at-line.result.now done
          c.loop-place.invariant w.number_at.ensures c.value_at-line.ensures
          (sym c.loses_split.ensures ∙ w.if-loses_split.true)
      | else-loses_split w ↦
          ap (λ (edits : List Edit). edits ++ rest) (ap (λ edits. edits.items) w.edits-is)
          ∙ dismissing-past old new lines c.loop-place.place c.value_at-line.result.now done c.loop-place.invariant
          c.value_at-line.ensures (sym c.loses_split.ensures ∙ w.if-loses_split.false)
    ]

pub returns : goal.returns
returns c =
    dismissing-end c.args.old.now c.args.new.now c.args.lines.now.entries c.loop-place.place c.loop-place.edits.items
    (omega (arith, c.loop-place-test.false, c.len-place-end.ensures.len)) c.loop-place.invariant
