use Rattle.std.proofs.Common.{string_bytes}
use Rattle.book_reports.specs.LotsText.{lot_row}
use Rattle.book_reports.proofs.LotsLemmas.{one_more}
use Rattle.book_reports.proofs.lots_report.add_open_lots.Goals as goal

pub loop-lot-preserved : goal.loop-lot-preserved
loop-lot-preserved c =
    one_more (lot_row c.args.style) c.args.lots.now c.loop-lot.lot-index _ (string_bytes c.args.out.now)
    (string_bytes c.loop-lot.out) (string_bytes c.add_open_lot.new.out) c.loop-lot-test.true c.loop-lot.invariant
    c.in_ok-add_open_lot.ensures
