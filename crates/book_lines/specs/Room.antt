-- What is seen of the room for one line: bytes past 8 MiB are counted and not kept.
use Rattle.std.specs.Prelude.{ℕ, ◌^◌, Bool, List, length, take}
use Rattle.book_lines.specs.Lines.{is_blank}

-- The part of a line that is kept: its first 8 MiB.
unfoldable pub front_of : List ℕ → List ℕ
front_of line = take (2 ^ 23) line

-- The kept part of a line, its length, and whether it is blank.
pub record Seen : Type 0 where
  pub front : List ℕ
  pub size : ℕ
  pub blank : Bool

-- What is seen of a line.
abbrev pub seen : List ℕ → Seen
seen line = record { front = front_of line; size = length line; blank = is_blank line }
