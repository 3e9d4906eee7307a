-- The last lines of a text of answers, and whether the machine gave all of them.
use Rattle.std.specs.Prelude.{◌≡◌, ℕ, ◌-◌, Bool, true, false, List, [], ◌∷◌, ◌++◌, length, drop}
use Rattle.std.specs.List.{flat_map, list_all}
use Rattle.book_lines.specs.Lines.{last_piece, whole_lines}
use Rattle.book_lines.specs.Marks.{Mark, Answered, Memory, Keeper, marks}

-- Lines as a text, with a line feed behind each.
abbrev pub unlined : List (List ℕ) → List ℕ
unlined all = flat_map (λ line. line ++ 10 ∷ []) all

-- The last so many of these lines, or all where there are fewer.
abbrev pub last_of : ℕ → List (List ℕ) → List (List ℕ)
last_of count all = drop (length all - count) all

-- The last two lines of a text that end by a line feed.
unfoldable pub last_two : List ℕ → List ℕ
last_two text = unlined (last_of 2 (whole_lines text))

-- Whether a mark says that the machine answered.
abbrev pub is_answered : Mark → Bool
is_answered Answered = true
is_answered Memory = false
is_answered Keeper = false

-- A text consists of whole lines, each of them an answer of the machine.
pub record AreAnswers (text : List ℕ) : Type 0 where
  pub whole : last_piece text ≡ []
  pub answered : list_all is_answered (marks text) ≡ true
