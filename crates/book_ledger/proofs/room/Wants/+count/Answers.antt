use Rattle.std.proofs.Common.{◌+◌, [], flat_map, take, ap, ◌∙◌}
use Rattle.std.proofs.lemmas.List.{flat_map_more}
use Rattle.book_commodity.proofs.ListLemmas.{take-item}
use Rattle.book_undo.specs.Edit.{leaves}
use Rattle.book_ledger.proofs.CountLemmas.{leaves_counted}
use Rattle.book_ledger.proofs.room.Wants.+count.Goals as goal

pub count_all-loop-part-preserved : goal.count_all-loop-part-preserved
count_all-loop-part-preserved t c =
    let parts = c.args.parts.now in
    let i = c.loop-part.part-index in
    let item = c.part-item.result in
    leaves_counted (flat_map leaves (take i parts)) (leaves item) (flat_map leaves (take (i + 1) parts))
    c.args.self.now.counts.entries c.loop-part.self.counts.entries c.count.new.self.counts.entries
    (flat_map_more leaves [] (take i parts) item
    ∙ ap (flat_map leaves) (take-item parts i item c.loop-part-test.true c.part-item.is))
    c.loop-part.invariant c.in_ok-count.ensures
