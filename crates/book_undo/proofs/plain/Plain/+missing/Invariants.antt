use Rattle.std.proofs.Common.{◌≡◌, drop, flat_map}
use Rattle.book_undo.specs.Book.{book_of}
use Rattle.book_undo.specs.Edit.{leaves}
use Rattle.book_undo.specs.EditRules.{first_missing}
use Rattle.book_undo.proofs.plain.Plain.+missing.Given as goal

abbrev pub invariant-missing_among-loop-part : goal.invariant-missing_among-loop-part
invariant-missing_among-loop-part l =
    first_missing (book_of l.self) (flat_map leaves l.parts)
    ≡ first_missing (book_of l.self) (flat_map leaves (drop l.part-index l.parts))
