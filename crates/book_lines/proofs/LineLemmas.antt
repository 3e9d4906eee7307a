-- How the lines of joined bytes follow from the lines of the parts.
use Rattle.std.proofs.Common.{◌≡◌, ℕ, zero, suc, ◌+◌, ◌<◌, ◌≤◌, Bool, true, false, not, ◌&&◌, cond, eqb, List, []}
use Rattle.std.proofs.Common.{◌∷◌, ◌++◌, length, take, drop, ◌-◌, get_or, refl, sym, ap, ◌∙◌, subst, arith}
use Rattle.std.proofs.Common.{append_assoc, append-nil, length-append, length-drop, take-append-drop}
use Rattle.std.proofs.lemmas.List.Elements.{filter-append}
use Rattle.std.proofs.lemmas.Bool.{eqb-true}
use Rattle.std.proofs.lemmas.List.{take_all, drop_more}
use Rattle.memchr.specs.Find.{Passes, is_byte, NoneBefore}
use Rattle.book_lines.specs.Lines.{ended, left_over, whole_lines, last_piece, rest_line, all_lines, sent, is_blank}
use Rattle.book_lines.specs.Marks.{is_one_line}

-- the lines that end in joined bytes: those of the first part, and those of the second behind what the first left over
pub ended-append : (begun xs ys : List ℕ) → ended begun (xs ++ ys) ≡ ended begun xs ++ ended (left_over begun xs) ys
ended-append begun [] ys = refl
ended-append begun (b ∷ xs) ys =
    elim (eqb b 10) as (λ t. cond t (begun ∷ ended [] (xs ++ ys)) (ended (begun ++ b ∷ []) (xs ++ ys))
    ≡ cond t (begun ∷ ended [] xs) (ended (begun ++ b ∷ []) xs) ++ ended
    (cond t (left_over [] xs) (left_over (begun ++ b ∷ []) xs)) ys) [
      | true ↦ ap (λ l. begun ∷ l) (ended-append [] xs ys)
      | false ↦ ended-append (begun ++ b ∷ []) xs ys
    ]

-- what joined bytes leave over
pub left_over-append : (begun xs ys : List ℕ) → left_over begun (xs ++ ys) ≡ left_over (left_over begun xs) ys
left_over-append begun [] ys = refl
left_over-append begun (b ∷ xs) ys =
    elim (eqb b 10) as (λ t. cond t (left_over [] (xs ++ ys)) (left_over (begun ++ b ∷ []) (xs ++ ys))
    ≡ left_over (cond t (left_over [] xs) (left_over (begun ++ b ∷ []) xs)) ys) [
      | true ↦ left_over-append [] xs ys
      | false ↦ left_over-append (begun ++ b ∷ []) xs ys
    ]

-- bytes without a line feed end no line
pub ended-one_line : (begun xs : List ℕ) → is_one_line xs ≡ true → ended begun xs ≡ []
ended-one_line begun [] h = refl
ended-one_line begun (b ∷ xs) h =
    let P : Bool → Type 0 = λ t. (not t && is_one_line xs) ≡ true
    → cond t (begun ∷ ended [] xs) (ended (begun ++ b ∷ []) xs) ≡ [] in
    (elim (eqb b 10) as P [ true ↦ λ k. cc | false ↦ λ k. ended-one_line (begun ++ b ∷ []) xs k ]) h

-- bytes without a line feed are left over whole
pub left_over-one_line : (begun xs : List ℕ) → is_one_line xs ≡ true → left_over begun xs ≡ begun ++ xs
left_over-one_line begun [] h = sym (append-nil begun)
left_over-one_line begun (b ∷ xs) h =
    let P : Bool → Type 0 = λ t. (not t && is_one_line xs) ≡ true
    → cond t (left_over [] xs) (left_over (begun ++ b ∷ []) xs) ≡ begun ++ b ∷ xs in
    (elim (eqb b 10) as P [
      | true ↦ λ k. cc
      | false ↦ λ k. left_over-one_line (begun ++ b ∷ []) xs k ∙ append_assoc begun (b ∷ []) xs
    ]) h

-- where the first places hold no line feed, the bytes at them are one line
pub is_one_line-take : (bytes : List ℕ) (n : ℕ) → ((k : ℕ) → k < n → eqb (get_or bytes k 0) 10 ≡ true → ⊥)
    → is_one_line (take n bytes) ≡ true
is_one_line-take [] zero h = refl
is_one_line-take [] (suc n) h = refl
is_one_line-take (b ∷ bs) zero h = refl
is_one_line-take (b ∷ bs) (suc n) h =
    let others : is_one_line (take n bs) ≡ true = is_one_line-take bs n (λ k l. h (suc k) (omega arith)) in
    let P : Bool → Type 0 = λ t. (t ≡ true → ⊥) → (not t && is_one_line (take n bs)) ≡ true in
    (elim (eqb b 10) as P [ true ↦ λ k. absurd (k refl) | false ↦ λ k. others ]) (h 0 (omega arith))

-- a part of one line is one line
pub is_one_line-front : (xs ys : List ℕ) → is_one_line (xs ++ ys) ≡ true → is_one_line xs ≡ true
is_one_line-front [] ys h = refl
is_one_line-front (b ∷ xs) ys h =
    let P : Bool → Type 0 = λ t. (not t && is_one_line (xs ++ ys)) ≡ true → (not t && is_one_line xs) ≡ true in
    (elim (eqb b 10) as P [ true ↦ λ k. k | false ↦ λ k. is_one_line-front xs ys k ]) h

-- what is left over is no longer than the bytes
pub length-left_over : (begun xs : List ℕ) → length (left_over begun xs) ≤ length begun + length xs
length-left_over begun [] = omega arith
length-left_over begun (b ∷ xs) =
    elim (eqb b 10) as (λ t. length (cond t (left_over [] xs) (left_over (begun ++ b ∷ []) xs)) ≤ length begun + suc
    (length xs)) [
      | true ↦ omega (arith, length-left_over [] xs)
      | false ↦ omega (arith, length-left_over (begun ++ b ∷ []) xs, length-append begun (b ∷ []))
    ]

-- bytes, or a line that has begun, have a line
pub some_line : (begun xs : List ℕ) → 0 < length begun + length xs
    → 0 < length (ended begun xs ++ rest_line (left_over begun xs))
some_line [] [] h = absurd (omega arith)
some_line (c ∷ cs) [] h = omega arith
some_line begun (b ∷ xs) h =
    elim (eqb b 10) as (λ t. 0 < length
    (cond t (begun ∷ ended [] xs) (ended (begun ++ b ∷ []) xs) ++ rest_line
    (cond t (left_over [] xs) (left_over (begun ++ b ∷ []) xs)))) [
      | true ↦ omega arith
      | false ↦ some_line (begun ++ b ∷ []) xs (omega (arith, length-append begun (b ∷ [])))
    ]

-- a rest is at most one line
pub length-rest_line : (xs : List ℕ) → length (rest_line xs) ≤ 1
length-rest_line [] = omega arith
length-rest_line (b ∷ xs) = omega arith

-- a rest that is no line is empty
pub rest_line-nil : (xs : List ℕ) → length (rest_line xs) ≡ 0 → xs ≡ []
rest_line-nil [] h = refl
rest_line-nil (b ∷ xs) h = absurd (omega arith)

-- the rest at the end of a line that is not empty
pub rest_line-some : (xs : List ℕ) → 0 < length xs → rest_line xs ≡ xs ∷ []
rest_line-some [] h = absurd (omega arith)
rest_line-some (b ∷ xs) h = refl

-- the lines of joined bytes where the first part ends a line
pub all_lines-append : (xs ys : List ℕ) → last_piece xs ≡ [] → all_lines (xs ++ ys) ≡ whole_lines xs ++ all_lines ys
all_lines-append xs ys h =
    ap (λ l. l ++ rest_line (last_piece (xs ++ ys))) (ended-append [] xs ys ∙ ap (λ r. ended [] xs ++ ended r ys) h)
    ∙ append_assoc (whole_lines xs) (whole_lines ys) (rest_line (last_piece (xs ++ ys)))
    ∙ ap (λ r. whole_lines xs ++ (whole_lines ys ++ rest_line r))
    (left_over-append [] xs ys ∙ ap (λ r. left_over r ys) h)

-- the lines that are answered, of joined lists of lines
pub sent-append : (xs ys : List (List ℕ)) → sent (xs ++ ys) ≡ sent xs ++ sent ys
sent-append xs ys = filter-append (λ line. not (is_blank line)) xs ys

-- bytes in which no place holds a line feed
pub one_line-none : (bytes : List ℕ) → ((k : ℕ) → 0 ≤ k → k < length bytes → Passes (is_byte 10) bytes k → ⊥)
    → is_one_line bytes ≡ true
one_line-none bytes h =
    subst (λ l. is_one_line l ≡ true) (take_all (length bytes) bytes (omega arith))
    (is_one_line-take bytes (length bytes) (λ k l. h k (omega arith) l))

-- the bytes before the first line feed
pub one_line-before : (bytes : List ℕ) (end : ℕ) → NoneBefore (Passes (is_byte 10) bytes) 0 (length bytes) end
    → is_one_line (take end bytes) ≡ true
one_line-before bytes end h = is_one_line-take bytes end (λ k l. h.before k (omega arith) l)

-- a piece is the part before a rest, the bytes of the rest up to a line feed, that line feed, and the bytes behind it
pub line_parts : (piece part rest : List ℕ) (end k : ℕ) → piece ≡ part ++ rest → Passes (is_byte 10) rest end
    → end < length rest → k ≡ length rest
    → piece ≡ (part ++ (take end rest ++ 10 ∷ [])) ++ take (k - (end + 1)) (drop (end + 1) rest)
line_parts piece part rest end k parts feed within long =
    let front = take end rest in
    let behind = drop (end + 1) rest in
    let whole : take (k - (end + 1)) behind ≡ behind = take_all (k - (end + 1)) behind
    (omega (arith, length-drop (end + 1) rest)) in
    let at : drop end rest ≡ 10 ∷ behind = drop_more rest end 0 within
    ∙ ap (λ b. b ∷ behind) (eqb-true (get_or rest end 0) 10 feed) in
    let cut : rest ≡ (front ++ 10 ∷ []) ++ behind = sym (take-append-drop end rest) ∙ ap (λ l. front ++ l) at
    ∙ sym (append_assoc front (10 ∷ []) behind) in
    parts ∙ ap (λ l. part ++ l) cut ∙ sym (append_assoc part (front ++ 10 ∷ []) behind)
    ∙ ap (λ l. (part ++ (front ++ 10 ∷ [])) ++ l) (sym whole)
