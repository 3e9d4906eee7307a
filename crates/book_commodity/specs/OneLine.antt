-- Texts of one line.
use Rattle.std.specs.Prelude.{ℕ, ◌==◌, Bool, not, List}
use Rattle.std.specs.List.{list_all}

-- A byte is no line feed.
abbrev pub no_feed : ℕ → Bool
no_feed byte = not (byte == 10)

-- A text has no line feed.
abbrev pub is_one_line : List ℕ → Bool
is_one_line text = list_all no_feed text
