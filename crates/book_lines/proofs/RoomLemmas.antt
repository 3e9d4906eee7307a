-- What is seen of a line that grows.
use Rattle.std.proofs.Common.{◌≡◌, ℕ, zero, suc, ◌+◌, ◌-◌, ◌^◌, ◌≤◌, min, Bool, ◌&&◌, List, [], ◌∷◌, ◌++◌, length}
use Rattle.std.proofs.Common.{take, refl, sym, ap, ◌∙◌, arith, length-append}
use Rattle.std.proofs.lemmas.List.{take_all, take_min}
use Rattle.std.proofs.lemmas.List.Folds.{list_all-append}
use Rattle.book_lines.specs.Lines.{is_blank, is_blank_byte}
use Rattle.book_lines.specs.Room.{front_of, Seen, seen}

-- the front of joined bytes, for any room
take-grow : (n : ℕ) (xs ys : List ℕ) → take n (xs ++ ys) ≡ take n xs ++ take (n - length (take n xs)) ys
take-grow zero xs ys = refl
take-grow (suc n) [] ys = let e : suc n ≡ suc n - 0 = omega arith in ap (λ k. take k ys) e
take-grow (suc n) (x ∷ xs) ys =
    let e : n - length (take n xs) ≡ suc n - suc (length (take n xs)) = omega arith in
    ap (λ l. x ∷ l) (take-grow n xs ys ∙ ap (λ k. take n xs ++ take k ys) e)

-- the kept part of a line that grows
front_of-append : (xs ys : List ℕ) (n : ℕ) → n ≡ 2 ^ 23 - length (front_of xs)
    → front_of (xs ++ ys) ≡ front_of xs ++ take n ys
unfolding front_of
front_of-append xs ys n h = take-grow (2 ^ 23) xs ys ∙ ap (λ k. take (2 ^ 23) xs ++ take k ys) (sym h)

-- nothing of no line
pub front_of-nil : front_of [] ≡ []
unfolding front_of
front_of-nil = take_all (2 ^ 23) [] (omega arith)

-- a line of at most 8 MiB is kept whole
pub front_of-short : (xs : List ℕ) → length xs ≤ 2 ^ 23 → front_of xs ≡ xs
unfolding front_of
front_of-short xs h = take_all (2 ^ 23) xs h

-- the part of a seen line, from an equation on the whole
pub front_is : (room : Seen) (line : List ℕ) → room ≡ seen line → room.front ≡ front_of line
front_is room line h = ap (λ (r : Seen). r.front) h

pub size_is : (room : Seen) (line : List ℕ) → room ≡ seen line → room.size ≡ length line
size_is room line h = ap (λ (r : Seen). r.size) h

pub blank_is : (room : Seen) (line : List ℕ) → room ≡ seen line → room.blank ≡ is_blank line
blank_is room line h = ap (λ (r : Seen). r.blank) h

-- what is seen where bytes come behind those of a line, as many of them as there is room for
pub seen-append : (line segment items : List ℕ) (size n : ℕ) (blank : Bool)
    → items ≡ front_of line ++ take (min n (length segment)) segment → n ≡ 2 ^ 23 - length (front_of line)
    → size ≡ length line + length segment → blank ≡ (is_blank line && is_blank segment)
    → (let room : Seen = record { front = items; size = size; blank = blank } in room ≡ seen (line ++ segment))
seen-append line segment items size n blank f k s b =
    let front : items ≡ front_of (line ++ segment) = f ∙ ap (λ l. front_of line ++ l) (take_min n segment)
    ∙ sym (front_of-append line segment n k) in
    let long : size ≡ length (line ++ segment) = s ∙ sym (length-append line segment) in
    let blanks : blank ≡ is_blank (line ++ segment) = b ∙ sym (list_all-append is_blank_byte line segment) in
    cc
