use Rattle.std.proofs.Common.{◌≡◌, ◌+◌, drop, flat_map}
use Rattle.book_undo.specs.Edit.{leaves}
use Rattle.book_undo.specs.Room.{need_of, puts}
use Rattle.book_undo.specs.declared.thing.ThingKind.{ThingKind}
use Rattle.book_undo.proofs.needs.Needs.+needs.Given as goal

abbrev pub invariant-count_all-loop-part : goal.invariant-count_all-loop-part
invariant-count_all-loop-part l =
    (kind : ThingKind) → need_of kind l.self + puts kind (flat_map leaves (drop l.part-index l.parts))
    ≡ need_of kind l.fn.self + puts kind (flat_map leaves l.parts)
