-- The numbers that rows of a book have.
use Rattle.std.specs.Prelude.{◌^◌, nat_lt, if◌then◌else◌, List, [], ◌∷◌, Option, Some, None}
use Rattle.book_keeper.specs.declared.row.Row.{Row}
use Rattle.book_keeper.specs.declared.row.RowKey.{RowKey}

-- The key of the first row whose number no row of a book has: it is 2^62 or more.
abbrev pub first_past_limit : List Row → Option RowKey
first_past_limit [] = None
first_past_limit (row ∷ rows) = if nat_lt row.key.id (2 ^ 62) then first_past_limit rows else Some row.key
