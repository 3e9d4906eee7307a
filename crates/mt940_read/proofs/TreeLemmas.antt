-- The tree of the lines that were read, with a hole for the lines that follow.
use Rattle.std.proofs.Common.{◌≡◌, ℕ, ◌+◌, List, [], ◌∷◌, ◌++◌, refl, append_assoc}
use Rattle.std.proofs.lemmas.List.{append-nil}
use Rattle.mt940_read.specs.declared.tag.Tag.{Tag}
use Rattle.mt940_read.specs.declared.tag.Tag.TheVariants.{Reference}
use Rattle.mt940_read.specs.declared.tag.Kind.{Kind}
use Rattle.mt940_read.specs.declared.tag.Kind.TheVariants.{Begins, Field, Passed, Ends, More}
use Rattle.mt940_read.specs.Kinds.{field_text}
use Rattle.mt940_read.specs.Tree.{FieldLines, MessageLines, Part, in_front}

-- the last field, which further lines may go on with, or none behind a field that is passed over
pub data Last : Type 0 where
  Closed : Last
  Open : Tag → ℕ → List ℕ → List (List ℕ) → Last

abbrev pub field_with : Tag → ℕ → List ℕ → List (List ℕ) → FieldLines
field_with tag n first more = record { tag = tag; line = n; first = first; more = more }

abbrev pub with_last : List FieldLines → Last → List FieldLines
with_last fs Closed = fs
with_last fs (Open tag n first more) = fs ++ field_with tag n first more ∷ []

-- what was read: whole messages, and perhaps the fields of one that has begun
pub data Begun : Type 0 where
  Between : List MessageLines → Begun
  Within : List MessageLines → List FieldLines → Last → Begun

abbrev pub message : List FieldLines → ℕ → MessageLines
message fields last = record { fields = fields; last = last }

-- what was read with what follows
abbrev pub fill : Begun → Part → List MessageLines
fill (Between done) part = done ++ part.messages
fill (Within done fs Closed) part = done ++ message (fs ++ part.fields) part.last ∷ part.messages
fill (Within done fs (Open tag n first more)) part =
    done ++ message (fs ++ field_with tag n first (more ++ part.loose) ∷ part.fields) part.last ∷ part.messages

-- what was read with a line more, behind n lines of the file
abbrev pub add : ℕ → List ℕ → Kind → Begun → Begun
add n line Begins (Between done) = Within done [] (Open Reference (n + 1) (field_text line) [])
add n line Begins (Within done fs last) = Within (done ++ message (with_last fs last) n ∷ []) []
    (Open Reference (n + 1) (field_text line) [])
add n line (Field tag) (Between done) = Between done
add n line (Field tag) (Within done fs last) = Within done (with_last fs last) (Open tag (n + 1) (field_text line) [])
add n line Passed (Between done) = Between done
add n line Passed (Within done fs last) = Within done (with_last fs last) Closed
add n line Ends (Between done) = Between done
add n line Ends (Within done fs last) = Between (done ++ message (with_last fs last) n ∷ [])
add n line More (Between done) = Between done
add n line More (Within done fs Closed) = Within done fs Closed
add n line More (Within done fs (Open tag m first more)) = Within done fs (Open tag m first (more ++ line ∷ []))

-- a line moves from what follows to what was read
pub fill-add : (n : ℕ) (line : List ℕ) (kind : Kind) (t : Begun) (part : Part)
    → fill t (in_front n line kind part) ≡ fill (add n line kind t) part
fill-add n line Begins (Between done) part = refl
fill-add n line Begins (Within done fs Closed) part = simp (append_assoc, append-nil)
fill-add n line Begins (Within done fs (Open tag m first more)) part = simp (append_assoc, append-nil)
fill-add n line (Field tag) (Between done) part = refl
fill-add n line (Field tag) (Within done fs Closed) part = refl
fill-add n line (Field tag) (Within done fs (Open u m first more)) part = simp (append_assoc, append-nil)
fill-add n line Passed (Between done) part = refl
fill-add n line Passed (Within done fs Closed) part = refl
fill-add n line Passed (Within done fs (Open u m first more)) part = simp (append_assoc, append-nil)
fill-add n line Ends (Between done) part = refl
fill-add n line Ends (Within done fs Closed) part = simp (append_assoc, append-nil)
fill-add n line Ends (Within done fs (Open u m first more)) part = simp (append_assoc, append-nil)
fill-add n line More (Between done) part = refl
fill-add n line More (Within done fs Closed) part = refl
fill-add n line More (Within done fs (Open u m first more)) part = simp append_assoc
