-- With the parts that are left the bytes become those of all parts, and all fit where those that are left do.
use Rattle.std.proofs.Common.{◌≡◌, ◌++◌, drop, flat_map}
use Rattle.std.specs.List.{AllByRecursion}
use Rattle.book_rows.specs.EditBytes.{edit_bytes, HasValues}
use Rattle.book_rows.specs.declared.format.RowFormat.TheVariants.{Two}
use Rattle.book_rows.proofs.edit.+spelling.Given as goal

abbrev pub invariant-spell_parts-loop-part : goal.invariant-spell_parts-loop-part
invariant-spell_parts-loop-part l = record {
  spelled : l.out.items ++ flat_map (edit_bytes Two) (drop l.part-index l.parts)
      ≡ l.fn.out.items ++ flat_map (edit_bytes Two) l.parts;
  fits : AllByRecursion (HasValues Two) (drop l.part-index l.parts) → AllByRecursion (HasValues Two) l.parts;
}
