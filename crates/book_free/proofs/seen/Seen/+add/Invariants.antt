use Rattle.std.proofs.Common.{◌≡◌, drop, flat_map}
use Rattle.book_undo.specs.Book.{book_of}
use Rattle.book_undo.specs.Edit.{leaves}
use Rattle.book_free.specs.Seen.{seen_after}
use Rattle.book_free.proofs.seen.Seen.+add.Given as goal

abbrev pub invariant-add_all-loop-part : goal.invariant-add_all-loop-part
invariant-add_all-loop-part l =
    seen_after (book_of l.plain) (flat_map leaves (drop l.part-index l.parts)) l.self
    ≡ seen_after (book_of l.plain) (flat_map leaves l.parts) l.fn.self
