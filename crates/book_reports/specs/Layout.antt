-- How the parts of a report are laid out: in columns for a person, or as comma-separated values.
use Rattle.std.specs.Prelude.{ℕ, ◌-◌, nat_lt, if◌then◌else◌, List, [], ◌∷◌, ◌++◌, length, map, replicate, codes}
use Rattle.csv.specs.Writing.{default_writer, row_text}

-- A text on one line: each control character below U+0020 is shown as one space.
unfoldable pub printed : List ℕ → List ℕ
printed text = map (λ byte. if nat_lt byte 32 then 32 else byte) text

-- A text at the right end of so many places; a longer one stands whole.
unfoldable pub right : ℕ → List ℕ → List ℕ
right places text = replicate (places - length text) 32 ++ text

-- An amount in 24 places, and behind it what it is of.
unfoldable pub amount_line : List ℕ → List ℕ → List ℕ
amount_line amount name = right 24 amount ++ codes "  " ++ printed name ++ 10 ∷ []

-- A record of comma-separated values (csv, the default writer).
unfoldable pub record_text : List (List ℕ) → List ℕ
record_text fields = row_text default_writer fields
