-- The bytes of edits, by induction over the tree.
use Rattle.std.specs.Prelude.{ℕ, ◌+◌, ◌^◌, ◌<◌, ◌≤◌, ⊤, List, [], ◌∷◌, ◌++◌}
use Rattle.book_codec.specs.Words.{number}
use Rattle.book_undo.specs.Edit.{depth}
use Rattle.book_undo.specs.Thing.{kind_of, row_kind}
use Rattle.book_undo.specs.declared.edit.Edit.{Edit, Currency, Put, Gone, All'}
use Rattle.book_undo.specs.declared.edit.Edit.{Row_of-Edit, end_of-Edit, more_of-Edit}
use Rattle.book_rows.specs.declared.format.RowFormat.{RowFormat}
use Rattle.book_rows.specs.ThingBytes.{thing_bytes, IsThing}
use Rattle.book_rows.specs.Values.{IsNumber}

-- How many parts a list has.
abbrev pub row_length : {count : _} → Row_of-Edit count → ℕ
row_length end_of-Edit = 0
row_length (more_of-Edit part more) = 1 + row_length more

-- An edit in a format: the byte 0, the number of its parts and then its parts; the byte 1, the kind of a thing that is
-- put, its number and its fields in the format; the byte 2, the kind of a thing that is deleted, and its number; or the
-- byte 3 and the currency.
unfoldable mutual
  pub edit_bytes : RowFormat → Edit → List ℕ
  edit_bytes format (All' shape parts) = 0 ∷ number (row_length parts) ++ row_bytes format parts
  edit_bytes format (Put it thing) = 1 ∷ row_kind (kind_of thing) ∷ number it ++ thing_bytes format thing
  edit_bytes format (Gone kind it) = 2 ∷ row_kind kind ∷ number it
  edit_bytes format (Currency currency) = 3 ∷ number currency

  -- The parts of a list, one after another.
  pub row_bytes : {count : _} → RowFormat → Row_of-Edit count → List ℕ
  row_bytes format end_of-Edit = []
  row_bytes format (more_of-Edit part more) = edit_bytes format part ++ row_bytes format more

-- An edit whose values have a spelling in a format: its numbers are of 64 bits, its things have a spelling, and so have
-- the parts of each of its lists, fewer than 2^64.
abbrev mutual
  pub HasValues : RowFormat → Edit → Type 0
  HasValues format (All' shape parts) = (row_length parts < 2 ^ 64) × PartsHaveValues format parts
  HasValues format (Put it thing) = IsNumber it × IsThing format thing
  HasValues format (Gone kind it) = IsNumber it
  HasValues format (Currency currency) = IsNumber currency

  -- Each part of a list has values with a spelling.
  pub PartsHaveValues : {count : _} → RowFormat → Row_of-Edit count → Type 0
  PartsHaveValues format end_of-Edit = ⊤
  PartsHaveValues format (more_of-Edit part more) = HasValues format part × PartsHaveValues format more

-- An edit of which at most so many lists stand in one another, and whose values have a spelling.
abbrev pub IsEditWithin : RowFormat → ℕ → Edit → Type 0
IsEditWithin format most edit = HasValues format edit × (depth edit ≤ most)

-- An edit that has a spelling in a format: its values have one, and at most eight of its lists stand in one another.
abbrev pub IsEdit : RowFormat → Edit → Type 0
IsEdit format edit = IsEditWithin format 8 edit
