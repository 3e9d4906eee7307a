-- The lines that a run takes, from bytes of which the first are known.
use Rattle.std.proofs.Common.{◌≡◌, ℕ, ◌+◌, ◌-◌, ◌^◌, ◌<◌, ◌≤◌, true, false, cond, List, [], ◌++◌, length, take, ap}
use Rattle.std.proofs.Common.{◌∙◌, arith, append_assoc, append-nil, length-append, length-take}
use Rattle.std.specs.Prelude.{nat_le}
use Rattle.std.proofs.Math.Seq.{take-append-add}
use Rattle.std.proofs.lemmas.Bool.{le-leb, lt-leb}
use Rattle.std.proofs.lemmas.List.{take_all, take_at, nil_from_length}
use Rattle.book_lines.specs.Lines.{ended, whole_lines, last_piece, rest_line, all_lines, lines_within, lines, AreAll}
use Rattle.book_lines.proofs.LineLemmas.{ended-append}

-- the front of a list that begins with xs
take-begins : (n : ℕ) (all xs ys : List (List ℕ)) → all ≡ xs ++ ys → length xs ≤ n → (later : List (List ℕ))
    × (take n all ≡ xs ++ later)
take-begins n all xs ys e h =
    let k : n ≡ length xs + (n - length xs) = omega arith in (
      take (n - length xs) ys,
      ap (λ l. take n l) e ∙ ap (λ i. take i (xs ++ ys)) k
          ∙ take-append-add xs ys (n - length xs),
    )

-- the front of bytes that begin with xs
take-behind : (n : ℕ) (xs ys : List ℕ) → length xs ≤ n → take n (xs ++ ys) ≡ xs ++ take (n - length xs) ys
take-behind n xs ys h =
    let k : n ≡ length xs + (n - length xs) = omega arith in
    ap (λ i. take i (xs ++ ys)) k ∙ take-append-add xs ys (n - length xs)

-- where the known bytes and their lines are within the limits, the lines begin with theirs
lines_within-begins : (count room : ℕ) (known more : List ℕ) → length known ≤ room → length (whole_lines known) ≤ count
    → (later : List (List ℕ)) × (lines_within count room (known ++ more) ≡ whole_lines known ++ later)
unfolding lines_within
lines_within-begins count room known more fit few =
    let open' = last_piece known in
    let front = take (room - length known) more in
    elim (nat_le (length (known ++ more)) room) as
    (λ t. (later : List (List ℕ))
    × (take count (cond t (all_lines (known ++ more)) (whole_lines (take room (known ++ more))))
    ≡ whole_lines known ++ later)) [
      | true ↦ take-begins count _ (whole_lines known) (ended open' more ++ rest_line (last_piece (known ++ more)))
          (ap (λ l. l ++ rest_line (last_piece (known ++ more))) (ended-append [] known more)
          ∙ append_assoc (whole_lines known) (ended open' more) (rest_line (last_piece (known ++ more)))) few
      | false ↦ take-begins count _ (whole_lines known) (ended open' front)
          (ap whole_lines (take-behind room known more fit) ∙ ended-append [] known front) few
    ]

-- where all is within the limits, the lines are all of it
lines_within-all : (count room : ℕ) (bytes : List ℕ) → length bytes ≤ room → length (all_lines bytes) ≤ count
    → lines_within count room bytes ≡ all_lines bytes
unfolding lines_within
lines_within-all count room bytes fit few =
    let within : nat_le (length bytes) room ≡ true = le-leb (length bytes) room fit in
    ap (λ t. take count (cond t (all_lines bytes) (whole_lines (take room bytes)))) within
    ∙ take_all count (all_lines bytes) few

-- where bytes stand behind the known ones, which fill the room, the lines are those that end in the known ones
lines_within-full : (count room : ℕ) (known more : List ℕ) → length known ≡ room → 0 < length more
    → length (whole_lines known) ≤ count
    → lines_within count room (known ++ more) ≡ whole_lines known
unfolding lines_within
lines_within-full count room known more full some few =
    let past : nat_le (length (known ++ more)) room ≡ false = lt-leb (length (known ++ more)) room
    (omega (arith, length-append known more)) in
    ap (λ t. take count (cond t (all_lines (known ++ more)) (whole_lines (take room (known ++ more))))) past
    ∙ ap (λ l. take count (whole_lines l)) (take_at known more room full) ∙ take_all count (whole_lines known) few

-- there are no more lines than may be taken
length-lines_within : (count room : ℕ) (bytes : List ℕ) → length (lines_within count room bytes) ≤ count
unfolding lines_within
length-lines_within count room bytes =
    omega (
      arith,
      length-take count
          (cond (nat_le (length bytes) room) (all_lines bytes) (whole_lines (take room bytes))),
    )

-- the same at the limits of a run
pub lines-begins : (known more : List ℕ) → length known ≤ 2 ^ 33 → length (whole_lines known) ≤ 1000000
    → (later : List (List ℕ)) × (lines (known ++ more) ≡ whole_lines known ++ later)
unfolding lines
lines-begins known more fit few = lines_within-begins 1000000 (2 ^ 33) known more fit few

pub lines-all : (bytes : List ℕ) → AreAll bytes → lines bytes ≡ all_lines bytes
unfolding lines
lines-all bytes h = lines_within-all 1000000 (2 ^ 33) bytes h.room h.count

pub lines-room : (known more : List ℕ) → length known ≡ 2 ^ 33 → 0 < length more
    → length (whole_lines known) ≤ 1000000 → lines (known ++ more) ≡ whole_lines known
unfolding lines
lines-room known more full some few = lines_within-full 1000000 (2 ^ 33) known more full some few

length-lines : (bytes : List ℕ) → length (lines bytes) ≤ 1000000
unfolding lines
length-lines bytes = length-lines_within 1000000 (2 ^ 33) bytes

pub lines-count : (known more : List ℕ) → length known ≤ 2 ^ 33 → length (whole_lines known) ≡ 1000000
    → lines (known ++ more) ≡ whole_lines known
lines-count known more fit full =
    let begins = lines-begins known more fit (omega arith) in
    let none : begins.0 ≡ [] = nil_from_length begins.0
    (omega (arith, length-lines (known ++ more), ap length begins.1, length-append (whole_lines known) begins.0)) in
    begins.1 ∙ ap (λ l. whole_lines known ++ l) none ∙ append-nil (whole_lines known)
