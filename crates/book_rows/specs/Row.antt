-- Rows: which body stands for which record.
use Rattle.std.specs.Prelude.{ℕ, ◌≡◌, ◌^◌, ◌<◌, ◌≤◌, List, ◌∷◌, Result, Ok, Err, ⊤}
use Rattle.book_rows.specs.declared.record.Record.{Record}
use Rattle.book_rows.specs.declared.record.Record.TheVariants as record_of
use Rattle.book_rows.specs.declared.record.RowError.{RowError}
use Rattle.book_rows.specs.declared.record.RowError.TheVariants as row_error
use Rattle.book_rows.specs.declared.head.Head.{Head}
use Rattle.book_codec.specs.declared.error.DecodeError.{DecodeError}
use Rattle.book_codec.specs.declared.error.DecodeError.TheVariants as decode_error
use Rattle.book_keeper.specs.declared.row.RowKey.{RowKey}
use Rattle.book_rows.specs.declared.format.RowFormat.{RowFormat}
use Rattle.book_rows.specs.Format.{format_byte}
use Rattle.book_rows.specs.HeadBytes.{head_bytes, IsHead}
use Rattle.book_rows.specs.EditBytes.{edit_bytes, IsEdit}
use Rattle.book_rows.specs.ThingBytes.{thing_bytes, IsThing}
use Rattle.book_undo.specs.Edit.{depth}
use Rattle.book_undo.specs.Thing.{kind_of as thing_kind, row_kind}

-- The kind of a record's row.
abbrev pub kind_of : Record → ℕ
kind_of (record_of.Head it) = 1
kind_of (record_of.Thing it) = row_kind (thing_kind it)
kind_of (record_of.Back it) = 11
kind_of (record_of.Forth it) = 12

-- The fields of a record as bytes of a format.
abbrev pub fields_of : RowFormat → Record → List ℕ
fields_of format (record_of.Head it) = head_bytes it
fields_of format (record_of.Thing it) = thing_bytes format it
fields_of format (record_of.Back it) = edit_bytes format it
fields_of format (record_of.Forth it) = edit_bytes format it

-- The body of a record in a format: the byte of the format and then the fields.
abbrev pub body_of : RowFormat → Record → List ℕ
body_of format it = format_byte format ∷ fields_of format it

-- The numbers of a head that a row can hold.
abbrev pub IsWithin : Head → Type 0
IsWithin head = (head.next < 2 ^ 62) × ((head.version < 2 ^ 62) × (head.position < 2 ^ 62))

-- The bounds of a record: those of a head's numbers, and that at most eight lists of an edit stand in one another. No
-- other record is held to bounds.
abbrev pub IsBounded : Record → Type 0
IsBounded (record_of.Head head) = IsWithin head
IsBounded (record_of.Back edit) = depth edit ≤ 8
IsBounded (record_of.Forth edit) = depth edit ≤ 8
IsBounded _ = ⊤

-- A record that has a spelling in a format.
abbrev pub IsRecord : RowFormat → Record → Type 0
IsRecord format (record_of.Head it) = IsHead it × IsWithin it
IsRecord format (record_of.Thing it) = IsThing format it
IsRecord format (record_of.Back it) = IsEdit format it
IsRecord format (record_of.Forth it) = IsEdit format it

-- A key under which a record may stand: ids are below 2 ^ 62, and the head stands at 0.
abbrev pub IsKeyOf : RowKey → Record → Type 0
IsKeyOf key it = (kind_of it ≡ key.kind) × (key.id < 2 ^ 62) × (key.kind ≡ 1 → key.id ≡ 0)

-- In this format the row with this key and this body stands for the record.
abbrev pub StandsFor : RowFormat → RowKey → List ℕ → Record → Type 0
StandsFor format key body it = IsKeyOf key it × IsRecord format it × (body ≡ body_of format it)

-- The key and the body are those of the record in this format.
abbrev pub IsSpelledBy : RowFormat → RowKey → List ℕ → Record → Type 0
IsSpelledBy format key body it = IsKeyOf key it × IsBounded it × (body ≡ body_of format it)

-- The row is read as this record unless the program is out of memory. In no case is it bad.
abbrev pub IsReadAs : Result Record RowError → Record → Type 0
IsReadAs (Ok it) wanted = it ≡ wanted
IsReadAs (Err (row_error.Bad kind id)) wanted = ⊥
IsReadAs (Err row_error.OutOfMemory) wanted = ⊤

-- The error of a row whose body is not read.
abbrev pub error_at : RowKey → DecodeError → RowError
error_at key decode_error.Bad = row_error.Bad key.kind key.id
error_at key decode_error.OutOfMemory = row_error.OutOfMemory

-- An error names its row, or says that the program is out of memory.
abbrev pub IsErrorAt : RowKey → RowError → Type 0
IsErrorAt key (row_error.Bad kind id) = (kind ≡ key.kind) × (id ≡ key.id)
IsErrorAt key row_error.OutOfMemory = ⊤
