-- How the parameters of a target are read.
use Rattle.std.specs.Prelude.{◌≡◌, ℕ, List, Option, Some, None, Result, Ok, Err, ⊤}
use Rattle.book_command.specs.declared.command.Command.{Command}
use Rattle.book_command.specs.declared.command.What.{What}
use Rattle.book_command.specs.declared.wire_error.WireError.{WireError}
use Rattle.book_command.specs.declared.wire_error.WireError.TheVariants as wire

-- The command that asks this, for whatever version the book has.
abbrev pub asks_what : What → Command
asks_what what = record { at = None; what = what }

-- The fault says that the member of this name fails, unless the name found no memory.
abbrev pub IsMissing : List ℕ → WireError → Type 0
IsMissing name (wire.NotCommand found) = found ≡ name
IsMissing name wire.OutOfMemory = ⊤
IsMissing name wire.NotJson = ⊥

-- The parameter of this name was read: what was found, or that there is none.
abbrev pub Reads : {X : Type 0} → Option X → List ℕ → Result X WireError → Type 0
Reads found name (Ok x) = found ≡ Some x
Reads found name (Err (wire.NotCommand field)) = (found ≡ None) × (field ≡ name)
Reads found name (Err wire.OutOfMemory) = ⊤
Reads found name (Err wire.NotJson) = ⊥
