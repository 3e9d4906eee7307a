use Rattle.std.proofs.Common.{◌+◌, take}
use Rattle.book_commodity.proofs.ListLemmas.{take-item}
use Rattle.book_ledger.proofs.CountLemmas.{counted_more, counted_none}
use Rattle.book_ledger.proofs.room.Wants.add_splits.Goals as goal

pub loop-split-init : goal.loop-split-init
loop-split-init c = counted_none c.args.self.now.counts.entries

pub loop-split-preserved : goal.loop-split-preserved
loop-split-preserved c =
    let splits = c.args.splits.now in
    let i = c.loop-split.split-index in
    counted_more (take i splits) c.split-item.result (take (i + 1) splits) c.args.self.now.counts.entries
    c.loop-split.self.counts.entries c.add.new.self.counts.entries
    (take-item splits i c.split-item.result c.loop-split-test.true c.split-item.is) c.loop-split.invariant
    c.in_ok-add.ensures
