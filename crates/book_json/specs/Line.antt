-- The object that a line of JSON is (RFC 8259), nested at most 127 deep.
use Rattle.std.specs.Prelude.{◌≡◌, ℕ, List, IsUtf8, Some, None, Result, Ok, Err, ⊤}
use Rattle.serde_json.specs.Data.{Data, object}
use Rattle.serde_json.specs.Find.{as_object}
use Rattle.serde_json.specs.Read.{read}
use Rattle.book_json.specs.Reads.{rest}
use Rattle.book_json.specs.declared.object.NotRead.{NotRead}
use Rattle.book_json.specs.declared.object.NotRead.TheVariants.{NotJson, NotObject, OutOfMemory}
use Rattle.book_json.specs.declared.reading.Reading.{Reading}

-- A line is the JSON text of this data: it is in UTF-8, and reads as the data; of equal keys the last counts.
abbrev pub IsJson : List ℕ → Data → Type 0
IsJson line d = IsUtf8 line × (read line ≡ Some d)

-- The members of the object that the line is, or why it is none; out of memory needs no cause.
abbrev pub IsObjectOf : List ℕ → Result Reading NotRead → Type 0
IsObjectOf line (Ok reading) = IsJson line (object (rest reading))
IsObjectOf line (Err NotJson) = (d : Data) → IsJson line d → ⊥
IsObjectOf line (Err NotObject) = (d : Data) × IsJson line d × (as_object d ≡ None)
IsObjectOf line (Err OutOfMemory) = ⊤
