-- The transcript of a machine that answers lines, over any type of states.
use Rattle.std.specs.Prelude.{◌≡◌, ℕ, ◌+◌, ◌<◌, ◌^◌, nat_lt, List, [], ◌∷◌, ◌++◌, length, take, MatchBool}
use Rattle.book_lines.specs.Lines.{sent}
use Rattle.book_lines.specs.Marks.{Mark, Answered, Memory, Keeper, marks, memory_answer, keeper_answer}

-- How lines are answered: from a state, a line with a mark is answered by a text, and a state follows.
abbrev pub AnswerRelation : Type 0 → Type 1
AnswerRelation S = S → List ℕ → Mark → List ℕ → S → Type 0

-- From the state `old` the lines are answered in turn, with one mark each: the text is the answers, a line feed behind
-- each, and `new` is the state after the last.
abbrev pub Run : {S : Type 0} → (AnswerRelation S) → S → List (List ℕ) → List Mark → List ℕ → S → Type 0
Run answers old [] [] text new = (text ≡ []) × (new ≡ old)
Run {S} answers old (line ∷ more) (mark ∷ others) text new = (answer : List ℕ) × (mid : S) × (rest : List ℕ)
    × answers old line mark answer mid × (text ≡ answer ++ 10 ∷ rest) × Run answers mid more others rest new
Run answers old [] (mark ∷ others) text new = ⊥
Run answers old (line ∷ more) [] text new = ⊥

-- The text is the answers to the lines that are not blank, with the marks that it shows itself.
abbrev pub IsTranscript : {S : Type 0} → (AnswerRelation S) → S → List (List ℕ) → List ℕ → S → Type 0
IsTranscript answers old all text new = Run answers old (sent all) (marks text) text new

-- The text is cut short: with n the line feeds in it, it is the first n answers and a proper prefix of the next, and
-- `new` is the state after n + 1 answers.
pub record IsCutShort {S : Type 0} (answers : AnswerRelation S) (old : S) (all : List (List ℕ)) (text : List ℕ)
    (mark : Mark) (new : S) : Type 0 where
  pub more : List ℕ
  pub some : 0 < length more
  pub run : Run answers old (take (length (marks text) + 1) (sent all)) (marks text ++ mark ∷ []) (text ++ more) new

-- How a machine answers one line, given its replies, its answer to a line of more than 8 MiB, which states are the
-- same to it, and which lines change a state: a line that is too long, or that it is out of memory for, leaves the
-- state; and only a line that changes the state is refused because of what is kept.
abbrev pub Answers :
    {S : Type 0} → (S → List ℕ → List ℕ → S → Type 0) → (ℕ → List ℕ) → (S → S → Type 0) → (S → List ℕ → Type 0)
    → AnswerRelation S
Answers replies too_long kept changes old line Answered answer new =
    MatchBool (nat_lt (2 ^ 23) (length line))
    ((answer ≡ too_long (length line)) × kept old new) (replies old line answer new)
Answers replies too_long kept changes old line Memory answer new = (answer ≡ memory_answer) × kept old new
Answers replies too_long kept changes old line Keeper answer new =
    (answer ≡ keeper_answer) × kept old new × changes old line
