-- What is left are the changes of the edits from the place on.
use Rattle.std.proofs.Common.{◌≡◌, IsTrue, drop, flat_map}
use Rattle.book_sound.specs.Soundness.{AreDrawn, IsSoundBook}
use Rattle.book_undo.specs.Book.{book_of}
use Rattle.book_undo.specs.Edit.{leaves}
use Rattle.book_history.specs.Passes.{changed}
use Rattle.book_history.proofs.passing.+changing.Given as goal

abbrev pub invariant-change_all-loop-part : goal.invariant-change_all-loop-part
invariant-change_all-loop-part l = record {
  book : changed (flat_map leaves (drop l.part-index l.parts)) (book_of l.plain)
      ≡ changed (flat_map leaves l.parts) (book_of l.fn.plain);
  known : IsTrue l.standing.known → IsSoundBook (book_of l.plain) × AreDrawn (book_of l.plain) l.next;
}
