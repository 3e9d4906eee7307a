-- The marks of one reconciliation more.
use Rattle.std.proofs.Common.{◌≡◌, ◌||◌, List, subst}
use Rattle.book_splits.specs.declared.reconciliation.MarkedSplit.{MarkedSplit}
use Rattle.book_check.specs.Marks.{MarkKey, is_made_by, mark_cmp}
use Rattle.book_check.specs.Seen.{is_seen}
use Rattle.book_check.proofs.MarkLemmas.{made_next}
use Rattle.book_check.proofs.SeenLemmas.{entry_at}
use Rattle.book_check.proofs.marks.marks_of.Goals as goal

pub loop-place-preserved : goal.loop-place-preserved
loop-place-preserved c =
    made_next c.args.reconciliations.now.entries c.loop-place.place c.number_at.result c.value_at.result.now
    c.loop-place.marks c.add_marks.new.marks
    (entry_at c.args.reconciliations.now.entries c.loop-place.place c.number_at.result c.value_at.result.now
    c.number_at.ensures c.value_at.ensures)
    c.loop-place.invariant
    (subst
    (λ (marked : List MarkedSplit). (key : MarkKey) → is_seen mark_cmp c.add_marks.new.marks key
    ≡ (is_made_by c.number_at.result marked key || is_seen mark_cmp c.loop-place.marks key))
    c.as_slice-marked.ensures c.in_ok-add_marks.ensures)
