-- Texts in which counters stand for numbers: what is between two number signs, or behind the last one, is a counter.
use Rattle.std.specs.Prelude.{ℕ, ◌+◌, ◌-◌, ◌*◌, ◌^◌, ◌==◌, min, List, [], ◌∷◌, ◌++◌}
use Rattle.std.specs.Fmt.{decimal}
use Rattle.std.specs.List.{before_first, after_first, slice_split}
use Rattle.gate_rows.specs.RowWords.{number_of}

-- The number of a counter FIRST+STEP: FIRST and so many times STEP, at most 2^64 - 1. Without a plus it is FIRST.
abbrev pub counter_number : ℕ → List ℕ → ℕ
counter_number times counter =
    min (number_of (before_first (λ byte. byte == 43) counter)
    + min (number_of (after_first (λ byte. byte == 43) counter) * times) (2 ^ 64 - 1)) (2 ^ 64 - 1)

-- The parts of a text around its number signs.
abbrev pub pieces_of : List ℕ → List (List ℕ)
pieces_of text = slice_split (λ byte. byte == 35) text

-- The text of pieces: each second one is a counter, and its number stands there.
abbrev pub written : ℕ → List (List ℕ) → List ℕ
written times [] = []
written times (piece ∷ []) = piece
written times (piece ∷ counter ∷ more) = piece ++ decimal (counter_number times counter) ++ written times more

-- The text with the numbers of its counters.
abbrev pub expanded : ℕ → List ℕ → List ℕ
expanded times text = written times (pieces_of text)
