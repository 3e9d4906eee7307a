use Rattle.std.proofs.Common.{◌≡◌}
use Rattle.serde_json.specs.View.{items_view}
use Rattle.book_json.specs.Forms.{each, inner}
use Rattle.book_json.proofs.EachLemmas.{on}
use Rattle.book_json.proofs.inside.list.Given as goal

abbrev pub invariant-loop-item : goal.invariant-loop-item
invariant-loop-item g l =
    each (inner g.O.Object.reader) (items_view l.initial.item-iterator.rest.items)
    ≡ on (inner g.O.Object.reader) l.list (items_view l.item-iterator.rest.items)
