-- How the rows of a table are written: in columns for a person, or as comma-separated values.
use Rattle.std.specs.Prelude.{ℕ, ◌+◌, ◌-◌, ◌==◌, ◌&&◌, false, if◌then◌else◌, List, [], ◌∷◌, ◌++◌, map, max, min, replicate}
use Rattle.std.specs.Prelude.{chars, length, slice_get, take}
use Rattle.std.specs.List.{flat_map}
use Rattle.std.specs.Option.{option_map_or}
use Rattle.unicode_width.specs.Width.{str_width}
use Rattle.book_reports.specs.Layout.{printed, record_text}
use Rattle.book_reports.specs.declared.form.Form.{Form}
use Rattle.book_reports.specs.declared.form.Form.TheVariants.{Csv, Plain}
use Rattle.book_table.specs.declared.columns.Column.{Column}
use Rattle.book_table.specs.declared.columns.Side.{Side}
use Rattle.book_table.specs.declared.columns.Side.TheVariants.{Free, Left, Right}

-- How many places of a terminal a text takes (Unicode Standard Annex 11, East Asian Width).
unfoldable pub width : List ℕ → ℕ
width text = str_width false (chars text)

-- How many places the text at a place of a row takes; none, where the row has no such text.
abbrev pub width_at : ℕ → List (List ℕ) → ℕ
width_at place row = option_map_or width (slice_get row place) 0

-- The widest text at a place of the rows.
abbrev pub widest : ℕ → List (List (List ℕ)) → ℕ
widest place [] = 0
widest place (row ∷ rows) = max (width_at place row) (widest place rows)

-- The columns from a place on, each as wide as its widest text, but with at most 80 places of a terminal (a choice of
-- this project). A wider text stands there whole and moves what is behind it in its row.
abbrev pub columns_from : ℕ → List Side → List (List (List ℕ)) → List Column
columns_from place [] rows = []
columns_from place (side ∷ sides) rows =
    record { side = side; places = min (widest place rows) 80 } ∷ columns_from (place + 1) sides rows

-- A text at the left or at the right end of so many places, or by itself.
abbrev pub at_side : Side → ℕ → List ℕ → List ℕ
at_side Left places text = text ++ replicate (places - width text) 32
at_side Right places text = replicate (places - width text) 32 ++ text
at_side Free places text = text

-- A text in its column.
unfoldable pub placed : Column → List ℕ → List ℕ
placed column text = at_side column.side column.places text

-- What stands between a text and those behind it.
abbrev pub gap : List (List ℕ) → List ℕ
gap [] = []
gap (text ∷ row) = 32 ∷ 32 ∷ []

-- Where the last text of a line stands: no spaces follow it.
abbrev pub last_side : Side → Side
last_side Left = Free
last_side Right = Right
last_side Free = Free

-- The column of a text, by what stands behind it.
abbrev pub before : List (List ℕ) → Column → Column
before [] column = record { side = last_side column.side; places = column.places }
before (text ∷ row) column = column

-- A row of texts, each in its column, with two spaces between them.
abbrev pub line : List Column → List (List ℕ) → List ℕ
line (column ∷ columns) (text ∷ row) = placed (before row column) text ++ gap row ++ line columns row
line columns row = 10 ∷ []

-- How many texts of a row there are up to the last one that isn't empty.
abbrev pub filled : List (List ℕ) → ℕ
filled [] = 0
filled (text ∷ row) = if length text == 0 && filled row == 0 then 0 else filled row + 1

-- A row without the empty texts at its end.
abbrev pub trimmed : List (List ℕ) → List (List ℕ)
trimmed row = take (filled row) row

-- The rows in columns; each control character below U+0020 is shown as one space.
abbrev pub lines : List Side → List (List (List ℕ)) → List ℕ
lines sides rows = flat_map (λ row. line (columns_from 0 sides rows) (trimmed row)) rows

-- The text of a table, of which the first row has the names of the columns.
unfoldable pub table_text : Form → List Side → List (List (List ℕ)) → List ℕ
table_text Plain sides rows = lines sides (map (map printed) rows)
table_text Csv sides rows = flat_map record_text rows
