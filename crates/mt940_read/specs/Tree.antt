-- A file as a tree: messages of fields, each with the lines that go on with it. The tree is read from the file's end.
use Rattle.std.specs.Prelude.{ℕ, ◌+◌, List, [], ◌∷◌}
use Rattle.mt940_read.specs.declared.tag.Tag.{Tag}
use Rattle.mt940_read.specs.declared.tag.Tag.TheVariants.{Reference}
use Rattle.mt940_read.specs.declared.tag.Kind.{Kind}
use Rattle.mt940_read.specs.declared.tag.Kind.TheVariants.{Begins, Field, Passed, Ends, More}
use Rattle.mt940_read.specs.Kinds.{field_text, kind_of}

-- A field: its tag, the number of its line, the text of that line behind the tag, and the further lines.
pub record FieldLines : Type 0 where
  pub tag : Tag
  pub line : ℕ
  pub first : List ℕ
  pub more : List (List ℕ)

-- A message: its fields, and the number of its last line.
pub record MessageLines : Type 0 where
  pub fields : List FieldLines
  pub last : ℕ

-- What lines mean in the middle of a file: lines that continue a field before them, fields that continue a message
-- before them, the number of that message's last line, and the messages that begin here.
pub record Part : Type 0 where
  pub loose : List (List ℕ)
  pub fields : List FieldLines
  pub last : ℕ
  pub messages : List MessageLines

-- The field that a line begins, behind n lines of the file.
abbrev pub field : ℕ → Tag → List ℕ → List (List ℕ) → FieldLines
field n tag line more = record { tag = tag; line = n + 1; first = field_text line; more = more }

-- A part with one line more in front, behind n lines of the file. A message ends at the line before the one that ends
-- it.
abbrev pub in_front : ℕ → List ℕ → Kind → Part → Part
in_front n line Begins part = record {
  loose = [];
  fields = [];
  last = n;
  messages = record { fields = field n Reference line part.loose ∷ part.fields; last = part.last } ∷ part.messages;
}
in_front n line (Field tag) part = record {
  loose = [];
  fields = field n tag line part.loose ∷ part.fields;
  last = part.last;
  messages = part.messages;
}
in_front n line Passed part = record { loose = []; fields = part.fields; last = part.last; messages = part.messages }
in_front n line Ends part = record { loose = []; fields = []; last = n; messages = part.messages }
in_front n line More part = record
    { loose = line ∷ part.loose; fields = part.fields; last = part.last; messages = part.messages }

-- The lines from one on, behind n lines of the file.
abbrev pub part_after : ℕ → List (List ℕ) → Part
part_after n [] = record { loose = []; fields = []; last = n; messages = [] }
part_after n (line ∷ lines) = in_front n line (kind_of line) (part_after (n + 1) lines)

-- The messages of a file; lines outside messages fall away.
abbrev pub messages_of : List (List ℕ) → List MessageLines
messages_of lines = (part_after 0 lines).messages
