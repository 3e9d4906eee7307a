-- One split's mark more.
use Rattle.book_check.proofs.MarkLemmas.{mark_added}
use Rattle.book_check.proofs.marks.add_marks.Goals as goal

pub loop-item-preserved : goal.loop-item-preserved
loop-item-preserved c =
    mark_added c.args.number c.args.marked.now c.loop-item.item-index _ c.args.marks.now c.loop-item.marks
    c.insert.new.self c.mark_key.result c.loop-item-test.true c.mark_key.ensures c.loop-item.invariant
    c.in_ok-insert.ensures.adds
