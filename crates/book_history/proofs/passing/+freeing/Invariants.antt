-- The changes of the edits from the place on are made.
use Rattle.std.proofs.Common.{◌≡◌, IsTrue, drop, flat_map}
use Rattle.book_sound.specs.Soundness.{AreDrawn, IsSoundBook}
use Rattle.book_undo.specs.Book.{book_of}
use Rattle.book_undo.specs.Edit.{leaves}
use Rattle.book_history.specs.Passes.{freed}
use Rattle.book_history.proofs.passing.+freeing.Given as goal

abbrev pub invariant-free_all-loop-place : goal.invariant-free_all-loop-place
invariant-free_all-loop-place l = record {
  book : book_of l.plain ≡ freed (flat_map leaves (drop l.place l.parts)) (book_of l.fn.plain);
  known : IsTrue l.standing.known → IsSoundBook (book_of l.plain) × AreDrawn (book_of l.plain) l.next;
}
