-- The records of a file's lines. The lines are read from the end of the file: what stands behind a record is known
-- when the record's line is put in front of it.
use Rattle.std.specs.Prelude.{ℕ, ◌+◌, List, [], ◌∷◌, ◌++◌, if◌then◌else◌}
use Rattle.bai2_read.specs.Kinds.{body_of, continues, kind_of}
use Rattle.bai2_read.specs.Records.{More, Record, whole}
use Rattle.bai2_read.specs.declared.kind.Kind.{Kind}
use Rattle.bai2_read.specs.declared.kind.Kind.TheVariants.{Blank, Continuation}

-- What some lines say, whatever stands before them: continuations of a record before them, and the records.
pub record Part : Type 0 where
  pub loose : List More
  pub records : List Record

-- Continuations that no record before them may have are one record by themselves.
abbrev pub strays : List More → List Record
strays [] = []
strays (m ∷ ms) = whole m.line Continuation m.body ms ∷ []

-- A record in front of what stands behind it: it takes the continuations where it may have some.
abbrev pub with_record : ℕ → Kind → List ℕ → List More → Part → List Record
with_record line kind body more part =
    if continues kind
    then whole line kind body (more ++ part.loose) ∷ part.records
    else whole line kind body more ∷ (strays part.loose ++ part.records)

-- A line in front: empty lines are passed over.
abbrev pub in_front : ℕ → Kind → List ℕ → Part → Part
in_front line Blank body part = part
in_front line Continuation body part =
    record { loose = record { line = line; body = body } ∷ part.loose; records = part.records }
in_front line kind body part = record { loose = []; records = with_record line kind body [] part }

-- The lines behind the first n lines of a file.
abbrev pub part_after : ℕ → List (List ℕ) → Part
part_after n [] = record { loose = []; records = [] }
part_after n (line ∷ lines) = in_front (n + 1) (kind_of line) (body_of line) (part_after (n + 1) lines)

-- The records of a file.
abbrev pub records_of : List (List ℕ) → List Record
records_of lines = let part = part_after 0 lines in strays part.loose ++ part.records
