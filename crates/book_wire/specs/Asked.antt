-- What a line asks.
use Rattle.std.specs.Prelude.{◌≡◌, ℕ, List, [], Option, Some, None, Result, Ok, Err, IfSome}
use Rattle.serde_json.specs.Data.{Data, Members}
use Rattle.serde_json.specs.Find.{as_object}
use Rattle.book_json.specs.Line.{IsJson}
use Rattle.book_json.specs.declared.fault.Fault.{Fault}
use Rattle.book_json.specs.declared.fault.Fault.TheVariants as fault
use Rattle.book_command.specs.declared.command.Command.{Command}
use Rattle.book_command.specs.declared.wire_error.WireError.{WireError}
use Rattle.book_command.specs.declared.wire_error.WireError.TheVariants as wire
use Rattle.book_wire.specs.Commands.{command}

-- A line asks for a command; or it is no JSON, or no command, where the member of this name fails.
pub data Asked : Type 0 where
  Asks : Command → Asked
  NotJson : Asked
  NotCommand : List ℕ → Asked

-- Members that were read to the end, or up to the first that fails.
abbrev pub asked_of_command : Result (Command × Members) (List ℕ) → Asked
asked_of_command (Ok found) = Asks found.0
asked_of_command (Err name) = NotCommand name

-- What an object asks: the command that its members spell, or that none does.
abbrev pub asked_of_members : Members → Asked
asked_of_members members = asked_of_command (command members)

-- What data asks that may be an object; where it is none, the member with the empty name fails.
abbrev pub asked_of_object : Option Members → Asked
asked_of_object (Some members) = asked_of_members members
asked_of_object None = NotCommand []

-- What the data of a line asks.
abbrev pub asked_of_data : Data → Asked
asked_of_data d = asked_of_object (as_object d)

-- The bytes are JSON, and their data asks this.
abbrev pub DataAsks : List ℕ → Asked → Type 0
DataAsks bytes asked = (d : Data) × IsJson bytes d × (asked_of_data d ≡ asked)

-- The one thing that a line asks.
abbrev pub LineAsks : List ℕ → Asked → Type 0
LineAsks bytes (Asks command) = DataAsks bytes (Asks command)
LineAsks bytes NotJson = (d : Data) → IsJson bytes d → ⊥
LineAsks bytes (NotCommand name) = DataAsks bytes (NotCommand name)

-- What was asked where there is a fault; out of memory does not say.
abbrev pub asked_of_fault : WireError → Option Asked
asked_of_fault wire.NotJson = Some NotJson
asked_of_fault (wire.NotCommand name) = Some (NotCommand name)
asked_of_fault wire.OutOfMemory = None

-- What was asked by a result of reading.
abbrev pub asked_of_result : Result Command WireError → Option Asked
asked_of_result (Ok command) = Some (Asks command)
asked_of_result (Err fault) = asked_of_fault fault

-- A result says what the line asks; out of memory needs no cause.
abbrev pub IsRead : List ℕ → Result Command WireError → Type 0
IsRead bytes result = IfSome (asked_of_result result) (LineAsks bytes)

-- Why a line is no command, where a member of it fails.
abbrev pub error_of_fault : Fault → WireError
error_of_fault (fault.Member name) = wire.NotCommand name
error_of_fault fault.OutOfMemory = wire.OutOfMemory
