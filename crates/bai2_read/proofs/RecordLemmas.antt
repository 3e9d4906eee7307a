-- A record with one continuation more.
use Rattle.std.proofs.Common.{◌≡◌, ℕ, ◌+◌, Bool, true, false, cond, List, [], ◌∷◌, ◌++◌, length, refl, ap, ◌∙◌, inl}
use Rattle.std.proofs.Common.{inr, arith}
use Rattle.std.proofs.lemmas.Bool.{cases_Bool}
use Rattle.std.proofs.lemmas.List.{length_push, map_push}
use Rattle.book_statement.specs.Texts.{add_piece, joined}
use Rattle.book_statement.proofs.TextLemmas.{joined-push}
use Rattle.bai2_read.specs.Kept.{with_more}
use Rattle.bai2_read.specs.Records.{More, fields_with, is_full, piece_of, pieces_with, whole}
use Rattle.bai2_read.specs.declared.kind.Kind.{Kind}

fields_push : (kind : Kind) (body : List ℕ) (more : List More) (m : More)
    → fields_with kind body (more ++ m ∷ [])
    ≡ cond (is_full kind (fields_with kind body more)) (fields_with kind body more)
    (fields_with kind body more ++ m.body)
fields_push kind body [] m = refl
fields_push kind body (x ∷ xs) m =
    elim (cases_Bool (is_full kind body)) [
      | inl full ↦ rw full (rw full refl)
      | inr open_ ↦ rw open_ (fields_push kind (body ++ x.body) xs m)
    ]

pieces_push : (kind : Kind) (body : List ℕ) (more : List More) (m : More)
    → pieces_with kind body (more ++ m ∷ [])
    ≡ cond (is_full kind (fields_with kind body more)) (pieces_with kind body more ++ piece_of m.body ∷ [])
    (pieces_with kind body more)
pieces_push kind body [] m = refl
pieces_push kind body (x ∷ xs) m =
    elim (cases_Bool (is_full kind body)) [
      | inl full ↦ rw full (rw full (map_push (λ (n : More). piece_of n.body) (x ∷ xs) m))
      | inr open_ ↦ rw open_ (pieces_push kind (body ++ x.body) xs m)
    ]

joined_cond : (full : Bool) (pieces : List (List ℕ)) (piece : List ℕ)
    → joined (cond full (pieces ++ piece ∷ []) pieces) ≡ cond full (add_piece (joined pieces) piece) (joined pieces)
joined_cond true pieces piece = joined-push pieces piece
joined_cond false pieces piece = refl

pub whole_push : (line : ℕ) (kind : Kind) (body : List ℕ) (more : List More) (m : More)
    → whole line kind body (more ++ m ∷ []) ≡ with_more (whole line kind body more) m.body
whole_push line kind body more m =
    let lines : 1 + length (more ++ m ∷ []) ≡ 1 + length more + 1 = omega (arith, length_push more m) in
    let fields = fields_push kind body more m in
    let text = ap joined (pieces_push kind body more m)
    ∙ joined_cond (is_full kind (fields_with kind body more)) (pieces_with kind body more) (piece_of m.body) in
    cc (lines, fields, text)
