-- The length of first lines, one byte on.
use Rattle.std.proofs.Common.{◌≡◌, ℕ, ◌+◌, ◌-◌, ◌<◌, ◌==◌, cond, List, length, drop, get_or}
use Rattle.std.proofs.lemmas.List.{at_drop_more}
use Rattle.gate_rows.specs.Lines.{lines_length}

pub length_more : (count : ℕ) (text : List ℕ) (i : ℕ) → i < length text
    → lines_length count (drop i text) ≡ cond (count == 0) 0
    (1 + lines_length (cond (get_or text i 0 == 10) (count - 1) count) (drop (i + 1) text))
length_more count text i below = at_drop_more (lines_length count) text i 0 below
