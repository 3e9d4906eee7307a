-- The lines of a text: each ends behind its line feed, and the last one may end with the text.
use Rattle.std.specs.Prelude.{ℕ, ◌+◌, ◌-◌, ◌==◌, if◌then◌else◌, List, [], ◌∷◌, ◌++◌, take, drop}

-- How many bytes the first lines of a text have, so many of them.
abbrev pub lines_length : ℕ → List ℕ → ℕ
lines_length count [] = 0
lines_length count (byte ∷ text) =
    if count == 0 then 0 else 1 + lines_length (if byte == 10 then count - 1 else count) text

-- The first lines of a text, so many of them.
abbrev pub first_lines : ℕ → List ℕ → List ℕ
first_lines count text = take (lines_length count text) text

-- What stands behind them.
abbrev pub behind_lines : ℕ → List ℕ → List ℕ
behind_lines count text = drop (lines_length count text) text

-- The lines of a text but for the one at a place, counted from 0.
abbrev pub without_line : ℕ → List ℕ → List ℕ
without_line place text = first_lines place text ++ behind_lines 1 (behind_lines place text)
