-- The bytes are those of the parts so far and then the rest. Parts that the bytes spell are those so far and others.
use Rattle.std.proofs.Common.{◌≡◌, ◌+◌, ◌*◌, List, ℕ, ◌++◌, length, flat_map}
use Rattle.std.specs.List.{AllByRecursion}
use Rattle.book_codec.proofs.ItemLemmas.{AreLeft}
use Rattle.book_undo.specs.declared.edit.Edit.{Edit}
use Rattle.book_rows.specs.EditBytes.{edit_bytes, IsEditWithin}
use Rattle.book_rows.proofs.edit.+reading.Given as goal

abbrev pub decreases-read_within : goal.decreases-read_within
decreases-read_within l = 3 * l.most + 2

abbrev pub decreases-read_list : goal.decreases-read_list
decreases-read_list l = 3 * l.most + 1

abbrev pub decreases-read_parts : goal.decreases-read_parts
decreases-read_parts l = 3 * l.most + 3

abbrev pub invariant-read_parts-loop-place : goal.invariant-read_parts-loop-place
invariant-read_parts-loop-place l = record {
  count : length l.parts ≡ l._place;
  fits : AllByRecursion (IsEditWithin l.format l.most) l.parts;
  found : l.bytes ≡ flat_map (edit_bytes l.format) l.parts ++ l.rest;
  again : (parts : List Edit) (tail : List ℕ) → AllByRecursion (IsEditWithin l.format l.most) parts
      → length parts ≡ l.count → l.bytes ≡ flat_map (edit_bytes l.format) parts ++ tail
      → AreLeft (IsEditWithin l.format l.most) (edit_bytes l.format) parts l.parts l.rest tail;
}
