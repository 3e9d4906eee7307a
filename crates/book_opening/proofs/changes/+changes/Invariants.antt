-- The changes are those before and what the leaves of the edits so far come to; the leaves that are left fit if all do.
use Rattle.std.proofs.Common.{◌≡◌, ◌++◌, flat_map, drop}
use Rattle.std.specs.List.{AllByRecursion}
use Rattle.book_undo.specs.Edit.{leaves}
use Rattle.book_opening.specs.Changes.{LeafFits, leaf_changes}
use Rattle.book_opening.proofs.changes.+changes.Given as goal

abbrev pub invariant-add_all-loop-part : goal.invariant-add_all-loop-part
invariant-add_all-loop-part l = record {
  added : l.changes ++ flat_map leaf_changes (flat_map leaves (drop l.part-index l.parts))
      ≡ l.fn.changes ++ flat_map leaf_changes (flat_map leaves l.parts);
  fit : AllByRecursion LeafFits (flat_map leaves (drop l.part-index l.parts))
      → AllByRecursion LeafFits (flat_map leaves l.parts);
}
