use Rattle.std.proofs.Common.{◌≡◌, drop, flat_map, Ok}
use Rattle.book_undo.specs.Edit.{leaves}
use Rattle.book_undo.specs.EditRules.{walked}
use Rattle.book_undo.proofs.order.Walk.+order.Given as goal

abbrev pub invariant-along_all-loop-part : goal.invariant-along_all-loop-part
invariant-along_all-loop-part l =
    walked (Ok l.fn.self) (flat_map leaves l.parts)
    ≡ walked (Ok l.walk) (flat_map leaves (drop l.part-index l.parts))
