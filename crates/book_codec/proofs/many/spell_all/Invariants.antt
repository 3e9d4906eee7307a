-- With the items that are left the bytes become those of all items, and all fit where those that are left do.
use Rattle.std.proofs.Common.{◌≡◌, ◌++◌, drop}
use Rattle.std.specs.List.{flat_map, AllByRecursion}
use Rattle.book_codec.proofs.many.spell_all.Given as goal

abbrev pub invariant-loop-item : goal.invariant-loop-item
invariant-loop-item g l = record {
  spelled : l.out.items ++ flat_map g.T.Field.spelling (drop l.item-index l.items)
      ≡ l.fn.out.items ++ flat_map g.T.Field.spelling l.items;
  fits : AllByRecursion g.T.Field.fits (drop l.item-index l.items) → AllByRecursion g.T.Field.fits l.items;
}
