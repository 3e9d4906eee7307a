-- The format of rows, which is the first byte of each body.
use Rattle.std.specs.Prelude.{ℕ, ◌==◌, if◌then◌else◌, List, [], ◌∷◌}
use Rattle.book_rows.specs.declared.format.RowFormat.{RowFormat}
use Rattle.book_rows.specs.declared.format.RowFormat.TheVariants.{One, Two}

-- The first byte of a body.
abbrev pub format_byte : RowFormat → ℕ
format_byte One = 1
format_byte Two = 2

-- The format of a body, by its first byte. A body that does not begin with 1 counts as one of format 2.
abbrev pub format_in : List ℕ → RowFormat
format_in [] = Two
format_in (first ∷ rest) = if first == 1 then One else Two
