-- The records of the lines read so far, with the place where the lines behind them go on; whatever those are, a line
-- moves from them to the records without any change of the whole.
use Rattle.std.proofs.Common.{◌≡◌, ℕ, List, [], ◌∷◌, ◌++◌, if◌then◌else◌, Option, Some, None, refl, sym, ap, ◌∙◌}
use Rattle.std.proofs.Common.{append_assoc, inl, inr}
use Rattle.std.proofs.lemmas.Bool.{cases_Bool}
use Rattle.std.proofs.lemmas.List.{append-nil}
use Rattle.bai2_read.specs.Kinds.{continues}
use Rattle.bai2_read.specs.Lines.{Part, in_front, strays, with_record}
use Rattle.bai2_read.specs.Records.{More, Record, whole}
use Rattle.bai2_read.specs.declared.kind.Kind.{Kind}
use Rattle.bai2_read.specs.declared.kind.Kind.TheVariants.{Blank, FileHeader, GroupHeader, AccountHeader, Detail}
use Rattle.bai2_read.specs.declared.kind.Kind.TheVariants.{AccountTrailer, Continuation, GroupTrailer, FileTrailer}
use Rattle.bai2_read.specs.declared.kind.Kind.TheVariants.{Unknown, NoRecord}

-- a record that may still go on, by its lines
pub record Begun : Type 0 where
  pub line : ℕ
  pub kind : Kind
  pub body : List ℕ
  pub more : List More

abbrev pub whole_of : Begun → Record
whole_of b = whole b.line b.kind b.body b.more

-- the records that are complete, and the last one
pub record Gathered : Type 0 where
  pub done : List Record
  pub last : Option Begun

abbrev pub behind : Option Begun → Part → List Record
behind None part = strays part.loose ++ part.records
behind (Some b) part = with_record b.line b.kind b.body b.more part

-- all records, with those that the further lines have
abbrev pub fill : Gathered → Part → List Record
fill t part = t.done ++ behind t.last part

-- the records with the last one complete
abbrev pub closed : List Record → Option Begun → List Record
closed done None = done
closed done (Some b) = done ++ whole_of b ∷ []

abbrev pub with_begun : ℕ → Kind → List ℕ → List Record → Option Begun → Gathered
with_begun line kind body done last =
    record { done = closed done last; last = Some (record { line = line; kind = kind; body = body; more = [] }) }

abbrev pub with_continuation : ℕ → List ℕ → List Record → Option Begun → Gathered
with_continuation line body done None = with_begun line Continuation body done None
with_continuation line body done (Some b) =
    if continues b.kind
    then record { done = done; last = Some (record b { more = b.more ++ record { line = line; body = body } ∷ [] }) }
    else with_begun line Continuation body done (Some b)

-- the same with one line more
abbrev pub add : ℕ → Kind → List ℕ → Gathered → Gathered
add line Blank body t = t
add line Continuation body t = with_continuation line body t.done t.last
add line kind body t = with_begun line kind body t.done t.last

-- a record that begins behind the others
fill_begun : (line : ℕ) (kind : Kind) (body : List ℕ) (done : List Record) (last : Option Begun) (part : Part)
    → done ++ behind last (record { loose = []; records = with_record line kind body [] part }) ≡ fill
    (with_begun line kind body done last) part
fill_begun line kind body done None part = refl
fill_begun line kind body done (Some b) part =
    elim (cases_Bool (continues b.kind)) [
      | inl goes ↦ rw goes
          (ap (λ l. done ++ whole b.line b.kind b.body l ∷ with_record line kind body [] part) (append-nil b.more)
          ∙ sym (append_assoc done (whole_of b ∷ []) (with_record line kind body [] part)))
      | inr ends ↦ rw ends (sym (append_assoc done (whole_of b ∷ []) (with_record line kind body [] part)))
    ]

fill_continued : (line : ℕ) (body : List ℕ) (done : List Record) (last : Option Begun) (part : Part)
    → done ++ behind last (record { loose = record { line = line; body = body } ∷ part.loose; records = part.records })
    ≡ fill (with_continuation line body done last) part
fill_continued line body done None part = refl
fill_continued line body done (Some b) part =
    elim (cases_Bool (continues b.kind)) [
      | inl goes ↦ rw goes (rw goes
          (ap (λ l. done ++ whole b.line b.kind b.body l ∷ part.records)
          (sym (append_assoc b.more (record { line = line; body = body } ∷ []) part.loose))))
      | inr ends ↦ rw ends
          (sym (append_assoc done (whole_of b ∷ []) (whole line Continuation body part.loose ∷ part.records)))
    ]

pub fill_add :
    (line : ℕ) (kind : Kind) (body : List ℕ) (t : Gathered) (part : Part) → fill t (in_front line kind body part) ≡ fill
    (add line kind body t) part
fill_add line Blank body t part = refl
fill_add line Continuation body t part = fill_continued line body t.done t.last part
fill_add line FileHeader body t part = fill_begun line FileHeader body t.done t.last part
fill_add line GroupHeader body t part = fill_begun line GroupHeader body t.done t.last part
fill_add line AccountHeader body t part = fill_begun line AccountHeader body t.done t.last part
fill_add line Detail body t part = fill_begun line Detail body t.done t.last part
fill_add line AccountTrailer body t part = fill_begun line AccountTrailer body t.done t.last part
fill_add line GroupTrailer body t part = fill_begun line GroupTrailer body t.done t.last part
fill_add line FileTrailer body t part = fill_begun line FileTrailer body t.done t.last part
fill_add line Unknown body t part = fill_begun line Unknown body t.done t.last part
fill_add line NoRecord body t part = fill_begun line NoRecord body t.done t.last part
