-- The bytes are those of the items so far and then the rest. Items that the bytes spell are those so far and others.
use Rattle.std.proofs.Common.{◌≡◌, ℕ, List, ◌++◌, length}
use Rattle.std.specs.List.{flat_map, AllByRecursion}
use Rattle.book_codec.proofs.ItemLemmas.{AreLeft}
use Rattle.book_codec.proofs.many.read_all.Given as goal

abbrev pub invariant-loop-place : goal.invariant-loop-place
invariant-loop-place g l = record {
  count : length l.items ≡ l._place;
  fits : AllByRecursion g.T.Field.fits l.items;
  found : l.bytes ≡ flat_map g.T.Field.spelling l.items ++ l.rest;
  again : (items : List g.row.T.Denot) (tail : List ℕ) → AllByRecursion g.T.Field.fits items
      → length items ≡ l.count → l.bytes ≡ flat_map g.T.Field.spelling items ++ tail
      → AreLeft g.T.Field.fits g.T.Field.spelling items l.items l.rest tail;
}
