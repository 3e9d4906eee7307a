use Rattle.std.proofs.Common.{◌++◌, ap, append_assoc, ◌∙◌}
use Rattle.book_listings.specs.Schedules.{rows_of}
use Rattle.book_listings.proofs.ScheduleRowLemmas.{rows_next}
use Rattle.book_listings.proofs.schedules.add_schedules.Goals as goal

pub loop-entry-preserved : goal.loop-entry-preserved
loop-entry-preserved c =
    let it = c.in_ok-add_entry.ensures in
    let so_far = c.loop-entry.invariant in
    let entry = c.entry-item.result in
    let added = rows_of c.args.form c.args.book.now entry.0 entry.1 it.0 in (
      so_far.0 ++ added,
      it.2 ∙ ap (λ l. l ++ added) so_far.1 ∙ append_assoc c.args.rows.now so_far.0 added,
      rows_next c.args.form c.args.book.now c.args.schedules.now c.loop-entry.entry-index entry it.0 so_far.0
          c.loop-entry-test.true c.entry-item.is so_far.2 it.1,
    )
