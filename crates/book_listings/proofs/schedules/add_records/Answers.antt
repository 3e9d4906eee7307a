use Rattle.book_listings.specs.Schedules.{record_row}
use Rattle.book_listings.proofs.RowLemmas.{map_next}
use Rattle.book_listings.proofs.schedules.add_records.Goals as goal

pub loop-split-preserved : goal.loop-split-preserved
loop-split-preserved c =
    map_next (record_row c.args.book.now c.args.number c.args.schedule.now c.args.next.now)
    c.as_slice-split-items.result.now c.loop-split.split-index c.split-item.result _ _ _ _ c.loop-split-test.true
    c.split-item.is c.in_ok-record_row.ensures c.loop-split.invariant c.in_ok-push.ensures.added
