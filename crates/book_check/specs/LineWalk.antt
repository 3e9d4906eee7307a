-- What a walk over the lines of statements has seen of the splits that they are matched with.
use Rattle.std.specs.Prelude.{◌≡◌, ℕ, nat_eq, Bool, ◌||◌, List, Some}
use Rattle.std.specs.List.{list_any}
use Rattle.std.specs.Option.{option_eq}
use Rattle.std.specs.Ordering.{nat_cmp}
use Rattle.book_statement.specs.declared.line.Line.{Line}
use Rattle.book_sound.specs.LineRules.{matched_split}
use Rattle.book_check.specs.Seen.{is_seen}

-- Whether a line is matched with the split of a number.
abbrev pub is_matched_with : ℕ → Line → Bool
is_matched_with split line = option_eq nat_eq (matched_split line.state) (Some split)

-- The splits seen are those that the lines are matched with.
abbrev pub HasMatched : List ℕ → List (ℕ × Line) → Type 0
HasMatched seen lines =
    (split : ℕ) → is_seen nat_cmp seen split ≡ list_any (λ entry. is_matched_with split entry.1) lines

-- Afterwards the split that a line is matched with is seen, if it is matched, and those that were seen before.
abbrev pub AddsMatched : List ℕ → Line → List ℕ → Type 0
AddsMatched old line new =
    (split : ℕ) → is_seen nat_cmp new split ≡ (is_matched_with split line || is_seen nat_cmp old split)
