-- One edit more: its leaves are those that come next.
use Rattle.std.proofs.Common.{List, ap, ◌≡◌, ◌+◌, ◌++◌, drop, flat_map}
use Rattle.book_commodity.proofs.ListLemmas.{from-item}
use Rattle.book_undo.specs.Edit.{Leaf, leaves}
use Rattle.book_undo.specs.declared.edit.Edit.{Edit}
use Rattle.book_opening.specs.Changes.{LeafFits}
use Rattle.book_opening.proofs.ChangeLaws.{step_added, step_fit}
use Rattle.book_opening.proofs.changes.+changes.Goals as goal

pub add_all-loop-part-preserved : goal.add_all-loop-part-preserved
add_all-loop-part-preserved t c =
    let rest : List Leaf = flat_map leaves (drop (c.loop-part.part-index + 1) c.args.parts.now) in
    let whole : List Leaf = flat_map leaves (drop c.loop-part.part-index c.args.parts.now) in
    let parts : whole ≡ leaves c.part-item.result ++ rest = ap (λ (parts : List Edit). flat_map leaves parts)
    (from-item c.args.parts.now c.loop-part.part-index c.part-item.result c.loop-part-test.true c.part-item.is) in
    record {
      added = step_added _ _ _ (leaves c.part-item.result) rest whole parts c.in_ok-add_changes.ensures.added
          c.loop-part.invariant.added;
      fit = step_fit LeafFits (leaves c.part-item.result) rest whole parts c.in_ok-add_changes.ensures.fit
          c.loop-part.invariant.fit;
    }
