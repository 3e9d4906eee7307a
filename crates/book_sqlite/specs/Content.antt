-- The rows of a book that the entries of its table hold.
use Rattle.std.specs.Prelude.{◌^◌, pos, nat_lt, ◌&&◌, if◌then◌else◌, List, [], ◌∷◌, Option, Some, None}
use Rattle.sqlite_value.specs.declared.value.Value.{Value}
use Rattle.sqlite_value.specs.declared.value.Value.TheVariants.{Int, Blob}
use Rattle.sqlite_value.specs.Order.{Row as Entry, column}
use Rattle.book_keeper.specs.declared.row.Row.{Row}
use Rattle.book_keeper.specs.Rows.{with_row}

-- The row that a kind, a number and a body make: a kind of one byte, a number of 64 bits, and bytes. Others make none.
abbrev pub row_made : Value → Value → Value → Option Row
row_made (Int (pos kind)) (Int (pos id)) (Blob body) =
    if nat_lt kind (2 ^ 8) && nat_lt id (2 ^ 64)
    then Some (record { key = record { kind = kind; id = id }; body = body }) else None
row_made _ _ _ = None

-- The row that an entry holds. An entry is its rowid, and then a kind, a number and a body.
abbrev pub row_held : Entry → Option Row
row_held entry = row_made (column entry 1) (column entry 2) (column entry 3)

abbrev pub with_held : Option Row → List Row → List Row
with_held None rows = rows
with_held (Some row) rows = with_row row rows

-- The rows that the entries hold, in the order of their keys. What holds none is passed over.
abbrev pub rows_of : List Entry → List Row
rows_of [] = []
rows_of (entry ∷ entries) = with_held (row_held entry) (rows_of entries)
