use Rattle.std.proofs.Common.{◌≡◌, ◌+◌, ◌*◌, ◌≤◌, flat_map}
use Rattle.book_undo.specs.Book.{book_of}
use Rattle.book_undo.specs.Edit.{edited_all, leaves, deepest}
use Rattle.book_undo.specs.Room.{puts, spare_of}
use Rattle.book_undo.specs.declared.thing.ThingKind.{ThingKind}
use Rattle.book_undo.proofs.plain.Plain.+apply.Given as goal

abbrev pub decreases-apply_within : goal.decreases-apply_within
decreases-apply_within l = 2 * l.most

abbrev pub decreases-apply_all : goal.decreases-apply_all
decreases-apply_all l = 2 * l.most + 1

abbrev pub invariant-apply_all-loop-part : goal.invariant-apply_all-loop-part
invariant-apply_all-loop-part l = record {
  shallow : deepest l.part-iterator.rest.items ≤ l.most;
  book :
      edited_all l.part-iterator.rest.items (book_of l.self) ≡ edited_all l.fn.parts (book_of l.fn.self);
  room : (kind : ThingKind) → puts kind (flat_map leaves l.part-iterator.rest.items) ≤ spare_of kind l.self;
  spare : (kind : ThingKind) → spare_of kind l.fn.self + puts kind (flat_map leaves l.part-iterator.rest.items)
      ≤ spare_of kind l.self + puts kind (flat_map leaves l.fn.parts);
}
