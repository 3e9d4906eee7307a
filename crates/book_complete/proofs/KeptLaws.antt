-- What a sink keeps that has room for so many bytes: the first of all that it was given.
use Rattle.std.proofs.Common.{◌≡◌, ℕ, ◌-◌, List, [], ◌∷◌, ◌++◌, length, min, take, zero, suc, refl, sym, ap}
use Rattle.std.proofs.Common.{◌∙◌, subst, arith}
use Rattle.std.proofs.lemmas.List.{take_all}
use Rattle.book_keeper.specs.Stream.{Wrote}
use Rattle.book_complete.specs.NoFail.{may_be_given}

take-both :
    (n : ℕ) (xs ys : List ℕ) → take n (xs ++ ys) ≡ take n xs ++ take (n - length (take n xs)) ys
take-both zero [] ys = refl
take-both zero (x ∷ xs) ys = refl
take-both (suc n) [] ys =
    let same : suc n ≡ suc n - 0 = omega arith in ap (λ (m : ℕ). take m ys) same
take-both (suc n) (x ∷ xs) ys =
    let same : n - length (take n xs) ≡ suc n - suc (length (take n xs)) = omega arith in
    ap (λ (l : List ℕ). x ∷ l) (take-both n xs ys)
    ∙ ap (λ (m : ℕ). x ∷ take n xs ++ take m ys) same

-- With a piece behind it, it is what was kept, and of the piece what there was room for.
kept_wrote :
    (room : ℕ) (old new piece : List ℕ) → new ≡ old ++ take (room - length old) piece
    → Wrote (may_be_given room old) (may_be_given room new) piece
kept_wrote room old new piece is = record {
  each = λ before kept.
      is ∙ ap (λ (l : List ℕ). l ++ take (room - length l) piece) kept ∙ sym (take-both room before piece);
}

take_min : (n : ℕ) (xs : List ℕ) → take (min (length xs) n) xs ≡ take n xs
take_min zero [] = refl
take_min (suc n) [] = let none : min 0 (suc n) ≡ 0 = omega arith in ap (λ (m : ℕ). take m []) none
take_min zero (x ∷ xs) = let none : min (suc (length xs)) 0 ≡ 0 = omega arith in ap (λ (m : ℕ). take m (x ∷ xs)) none
take_min (suc n) (x ∷ xs) =
    let one : min (suc (length xs)) (suc n) ≡ suc (min (length xs) n) = omega arith in
    ap (λ (m : ℕ). take m (x ∷ xs)) one ∙ ap (λ (l : List ℕ). x ∷ l) (take_min n xs)

-- It takes as much of a piece as there is room for.
pub taken_kept :
    (room : ℕ) (inside old new piece : List ℕ) (count : ℕ) → inside ≡ old
    → count ≡ min (length piece) (room - length inside) → new ≡ inside ++ take count piece
    → new ≡ old ++ take (room - length old) piece
taken_kept room inside old new piece count view is given =
    given ∙ ap (λ (m : ℕ). inside ++ take m piece) is
    ∙ ap (λ (l : List ℕ). inside ++ l) (take_min (room - length inside) piece)
    ∙ ap (λ (l : List ℕ). l ++ take (room - length l) piece) view

-- So it may have been given the whole piece.
pub taken_wrote :
    (room : ℕ) (old new piece : List ℕ) → new ≡ old ++ take (room - length old) piece
    → Wrote (may_be_given room old) (may_be_given room new) (take (length piece) piece)
taken_wrote room old new piece is =
    subst (λ (l : List ℕ). Wrote (may_be_given room old) (may_be_given room new) l)
    (sym (take_all (length piece) piece (omega arith))) (kept_wrote room old new piece is)
