-- The lines of an input: its pieces that end by a line feed, and a rest behind the last of them, within two limits.
use Rattle.std.specs.Prelude.{ℕ, ◌^◌, ◌<◌, ◌≤◌, ◌==◌, nat_le, Bool, not, ◌||◌, List, [], ◌∷◌, ◌++◌, length, take}
use Rattle.std.specs.Prelude.{filter, if◌then◌else◌, ◌⊎◌}
use Rattle.std.specs.List.{list_all}

-- The pieces that end by a line feed, each without it; `begun` is what stands before `bytes` on the same line.
abbrev pub ended : List ℕ → List ℕ → List (List ℕ)
ended begun [] = []
ended begun (b ∷ bs) = if b == 10 then begun ∷ ended [] bs else ended (begun ++ b ∷ []) bs

-- What stands behind the last line feed; `begun` is what stands before `bytes` on the same line.
abbrev pub left_over : List ℕ → List ℕ → List ℕ
left_over begun [] = begun
left_over begun (b ∷ bs) = if b == 10 then left_over [] bs else left_over (begun ++ b ∷ []) bs

-- The lines that end by a line feed.
abbrev pub whole_lines : List ℕ → List (List ℕ)
whole_lines bytes = ended [] bytes

-- The rest behind the last line feed.
abbrev pub last_piece : List ℕ → List ℕ
last_piece bytes = left_over [] bytes

-- A rest counts as a line where it is not empty.
abbrev pub rest_line : List ℕ → List (List ℕ)
rest_line [] = []
rest_line (b ∷ bs) = (b ∷ bs) ∷ []

-- The lines of bytes that are taken whole.
abbrev pub all_lines : List ℕ → List (List ℕ)
all_lines bytes = whole_lines bytes ++ rest_line (last_piece bytes)

-- The first `count` lines of the first `room` bytes, where a rest counts only at the end of the input.
unfoldable pub lines_within : ℕ → ℕ → List ℕ → List (List ℕ)
lines_within count room bytes =
    take count (if nat_le (length bytes) room then all_lines bytes else whole_lines (take room bytes))

-- The lines that a run takes: at most a million, of at most 2 ^ 33 bytes.
unfoldable pub lines : List ℕ → List (List ℕ)
lines bytes = lines_within 1000000 (2 ^ 33) bytes

-- The lines that a run takes are all of the input.
pub record AreAll (bytes : List ℕ) : Type 0 where
  pub room : length bytes ≤ 2 ^ 33
  pub count : length (all_lines bytes) ≤ 1000000

-- The lines that a run takes are not all of the input.
abbrev pub AreNotAll : List ℕ → Type 0
AreNotAll bytes = (2 ^ 33 < length bytes) ⊎ (1000000 < length (all_lines bytes))

-- A byte of a blank line: space, tab or carriage return.
abbrev pub is_blank_byte : ℕ → Bool
is_blank_byte byte = (byte == 32) || ((byte == 9) || (byte == 13))

-- A line of spaces, tabs and carriage returns alone is blank, however long it is.
abbrev pub is_blank : List ℕ → Bool
is_blank line = list_all is_blank_byte line

-- The lines that are answered: those that are not blank.
abbrev pub sent : List (List ℕ) → List (List ℕ)
sent all = filter (λ line. not (is_blank line)) all
