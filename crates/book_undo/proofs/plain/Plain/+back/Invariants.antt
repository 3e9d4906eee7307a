use Rattle.std.proofs.Common.{◌≡◌, ◌++◌, drop, flat_map, map, max}
use Rattle.book_undo.specs.Book.{book_of}
use Rattle.book_undo.specs.Edit.{leaves, deepest, outline}
use Rattle.book_undo.specs.Inverse.{leaf_back}
use Rattle.book_undo.proofs.plain.Plain.+back.Given as goal

abbrev pub invariant-back_all-loop-part : goal.invariant-back_all-loop-part
invariant-back_all-loop-part l = record {
  leaves :
      flat_map leaves l.back ++ map (leaf_back (book_of l.self)) (flat_map leaves (drop l.part-index l.parts))
      ≡ map (leaf_back (book_of l.self)) (flat_map leaves l.parts);
  depth : max (deepest l.back) (deepest (drop l.part-index l.parts)) ≡ deepest l.parts;
  form : flat_map outline l.back ++ flat_map outline (drop l.part-index l.parts) ≡ flat_map outline l.parts;
}
