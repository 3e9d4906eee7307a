-- Records with their continuations.
use Rattle.std.specs.Prelude.{ℕ, ◌+◌, Bool, ◌&&◌, List, [], ◌∷◌, ◌++◌, length, drop, map, if◌then◌else◌}
use Rattle.book_statement.specs.Texts.{joined}
use Rattle.bai2_read.specs.Details.{is_complete}
use Rattle.bai2_read.specs.Fields.{after_fields}
use Rattle.bai2_read.specs.Kinds.{is_detail}
use Rattle.bai2_read.specs.declared.kind.Kind.{Kind}

-- A record with its continuations: its first line, how many lines it has, its fields, each behind a comma, and for a
-- detail the text that continuations add to it.
pub record Record : Type 0 where
  pub line : ℕ
  pub kind : Kind
  pub lines : ℕ
  pub body : List ℕ
  pub text : List ℕ

-- A line of record 88 with what stands behind its code.
pub record More : Type 0 where
  pub line : ℕ
  pub body : List ℕ

-- A detail whose fields reach its customer reference takes no more fields; other records always do.
abbrev pub is_full : Kind → List ℕ → Bool
is_full kind body = is_detail kind && is_complete body

-- The fields of a record with its continuations, whose fields are added until the record is full.
abbrev pub fields_with : Kind → List ℕ → List More → List ℕ
fields_with kind body [] = body
fields_with kind body (m ∷ ms) = if is_full kind body then body else fields_with kind (body ++ m.body) ms

-- What a continuation adds to the text of a detail: all behind the code and its comma.
abbrev pub piece_of : List ℕ → List ℕ
piece_of body = drop 1 (after_fields 0 body)

-- The texts of the continuations behind a record that is full.
abbrev pub pieces_with : Kind → List ℕ → List More → List (List ℕ)
pieces_with kind body [] = []
pieces_with kind body (m ∷ ms) =
    if is_full kind body then map (λ (n : More). piece_of n.body) (m ∷ ms) else pieces_with kind (body ++ m.body) ms

-- The record of a line with its continuations. Each line counts as a record (a rule of this project for record 88).
abbrev pub whole : ℕ → Kind → List ℕ → List More → Record
whole line kind body more = record {
  line = line;
  kind = kind;
  lines = 1 + length more;
  body = fields_with kind body more;
  text = joined (pieces_with kind body more);
}
