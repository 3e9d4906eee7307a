-- When the rows of a keeper are those of a state.
use Rattle.std.specs.Prelude.{◌≡◌, Bool, true, false, List, []}
use Rattle.book_keeper.specs.declared.row.Row.{Row}
use Rattle.book_rows.specs.declared.format.RowFormat.TheVariants.{Two}
use Rattle.book_opening.specs.Opening.{OpenIn}
use Rattle.book_opening.specs.State.{State}

-- Rows stand for a state: they are its rows in format 2. Where no rows were given to the keeper yet, there are none.
abbrev pub StandFor : Bool → State → List Row → Type 0
StandFor true state rows = OpenIn Two rows state
StandFor false state rows = rows ≡ []
