-- The line that answers a line which is no command, or which is too long.
use Rattle.std.specs.Prelude.{ℕ, List, [], ◌∷◌, codes, Option, Some, None, option_map}
use Rattle.serde_json.specs.Data.{Members, string}
use Rattle.book_command.specs.declared.wire_error.WireError.{WireError}
use Rattle.book_command.specs.declared.wire_error.WireError.TheVariants.{NotJson, NotCommand, OutOfMemory}
use Rattle.book_texts.specs.Fields.{line_of, refused}
use Rattle.book_texts.specs.Shown.{number_data}

-- Why a line is no command, with the name of the member that fails; out of memory is answered elsewhere.
abbrev pub fault_members : WireError → Option Members
fault_members NotJson = Some (refused (codes "not json") [])
fault_members (NotCommand name) = Some (refused (codes "not command") ((codes "field", string name) ∷ []))
fault_members OutOfMemory = None

-- Its line.
unfoldable pub fault_bytes : WireError → Option (List ℕ)
fault_bytes fault = option_map line_of (fault_members fault)

-- A line that is too long is refused with its length in bytes.
unfoldable pub too_long_bytes : ℕ → List ℕ
too_long_bytes length = line_of (refused (codes "too long") ((codes "length", number_data length) ∷ []))
