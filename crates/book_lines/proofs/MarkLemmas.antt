-- The marks of texts, and the faults that go with them.
use Rattle.std.proofs.Common.{◌≡◌, ℕ, true, List, [], ◌∷◌, ◌++◌, map, refl, ap, ◌∙◌, arith}
use Rattle.std.proofs.lemmas.List.{map-append}
use Rattle.std.proofs.lemmas.List.Sums.{sum_by-append}
use Rattle.std.specs.Prelude.{cond}
use Rattle.book_lines.specs.Lines.{ended, left_over, whole_lines, last_piece}
use Rattle.book_lines.specs.Marks.{Mark, Memory, Keeper, memory_answer, keeper_answer, mark_of, marks, is_one_line}
use Rattle.book_lines.specs.Marks.{is_keeper, RoseForEach}
use Rattle.book_lines.proofs.LineLemmas.{ended-append, left_over-append, ended-one_line, left_over-one_line}

-- the marks of joined texts of which the first ends a line
pub marks-append : (t u : List ℕ) → last_piece t ≡ [] → marks (t ++ u) ≡ marks t ++ marks u
marks-append t u h =
    ap (λ l. map mark_of l) (ended-append [] t u ∙ ap (λ r. ended [] t ++ ended r u) h)
    ∙ map-append mark_of (whole_lines t) (whole_lines u)

-- joined texts end a line where each does
pub last_piece-append : (t u : List ℕ) → last_piece t ≡ [] → last_piece u ≡ [] → last_piece (t ++ u) ≡ []
last_piece-append t u h k = left_over-append [] t u ∙ ap (λ r. left_over r u) h ∙ k

-- one answer and its line feed have one mark
pub marks-line : (answer : List ℕ) → is_one_line answer ≡ true → marks (answer ++ 10 ∷ []) ≡ mark_of answer ∷ []
marks-line answer h =
    ap (λ l. map mark_of l) (ended-append [] answer (10 ∷ [])
    ∙ ap (λ l. l ++ ended (left_over [] answer) (10 ∷ [])) (ended-one_line [] answer h)
    ∙ ap (λ r. r ∷ []) (left_over-one_line [] answer h))

-- one answer and its line feed end a line
pub last_piece-line : (answer : List ℕ) → last_piece (answer ++ 10 ∷ []) ≡ []
last_piece-line answer = left_over-append [] answer (10 ∷ [])

-- a part of one answer has no mark
pub marks-part : (part : List ℕ) → is_one_line part ≡ true → marks part ≡ []
marks-part part h = ap (λ l. map mark_of l) (ended-one_line [] part h)

-- the two answers that say why there is none
pub mark_of-memory : mark_of memory_answer ≡ Memory
unfolding memory_answer
mark_of-memory = refl

pub mark_of-keeper : mark_of keeper_answer ≡ Keeper
unfolding memory_answer keeper_answer
mark_of-keeper = refl

pub memory-one_line : is_one_line memory_answer ≡ true
unfolding memory_answer
memory-one_line = refl

pub keeper-one_line : is_one_line keeper_answer ≡ true
unfolding keeper_answer
keeper-one_line = refl

-- faults that rose for the marks of one stretch, and then for those of the next
pub RoseForEach-append : (a b c : ℕ) (ms ns : List Mark) → RoseForEach a b ms → RoseForEach b c ns
    → RoseForEach a c (ms ++ ns)
RoseForEach-append a b c ms ns p q = omega (arith, sum_by-append (λ m. cond (is_keeper m) 1 0) ms ns)
