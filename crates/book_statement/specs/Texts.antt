-- The text of a statement file: what its bytes say, and its lines.
use Rattle.std.specs.Prelude.{
  ℕ,
  ◌+◌,
  ◌==◌,
  nat_eq,
  Bool,
  ◌&&◌,
  List,
  [],
  ◌∷◌,
  ◌++◌,
  length,
  drop,
  map,
  if◌then◌else◌,
  encode_utf8_all,
}
use Rattle.std.specs.List.{position_or_len, starts_with}
use Rattle.std.specs.Str.{is_utf8}
use Rattle.std.specs.Str.Lines.{strip_carriage_return}

-- whether there is nothing in the list
abbrev pub is_nothing : {X : Type 0} → List X → Bool
is_nothing xs = length xs == 0

-- U+FEFF in UTF-8, which some programs write in front of a text (Unicode, byte order mark)
abbrev pub byte_order_mark : List ℕ
byte_order_mark = 239 ∷ 187 ∷ 191 ∷ []

-- a text without one byte order mark in front
abbrev pub without_mark : List ℕ → List ℕ
without_mark text = if starts_with nat_eq text byte_order_mark then drop 3 text else text

-- the text of a file: its bytes where they are UTF-8, without one byte order mark in front; else each byte as the
-- character of its number (ISO 8859-1), of which none is the mark
unfoldable pub text_of_bytes : List ℕ → List ℕ
text_of_bytes bytes = if is_utf8 bytes then without_mark bytes else encode_utf8_all bytes

-- a byte in front of the first line
abbrev pub onto_first : ℕ → List (List ℕ) → List (List ℕ)
onto_first b [] = (b ∷ []) ∷ []
onto_first b (line ∷ lines) = (b ∷ line) ∷ lines

-- a line ends by a line feed, and a rest behind the last line feed is a line where it is not empty
abbrev pub raw_lines : List ℕ → List (List ℕ)
raw_lines [] = []
raw_lines (b ∷ bs) = if b == 10 then [] ∷ raw_lines bs else onto_first b (raw_lines bs)

-- the text behind its first line feed; empty where it has none
abbrev pub behind_line : List ℕ → List ℕ
behind_line text = drop (position_or_len (λ b. b == 10) text + 1) text

-- a line without the spaces at its end
abbrev pub without_spaces : List ℕ → List ℕ
without_spaces [] = []
without_spaces (b ∷ bs) =
    let rest = without_spaces bs in if is_nothing rest && (b == 32) then [] else b ∷ rest

-- a line without one carriage return at its end, and then without the spaces at its end
abbrev pub trimmed : List ℕ → List ℕ
trimmed line = without_spaces (strip_carriage_return line)

-- the lines of a statement file
abbrev pub lines_of : List ℕ → List (List ℕ)
lines_of text = map trimmed (raw_lines text)

-- two pieces of text joined by a space, where neither is empty; else the one that is not
abbrev pub add_piece : List ℕ → List ℕ → List ℕ
add_piece front [] = front
add_piece [] (b ∷ bs) = b ∷ bs
add_piece (a ∷ front) (b ∷ bs) = (a ∷ front) ++ 32 ∷ (b ∷ bs)

-- pieces of text joined by one space, empty ones left out
abbrev pub joined : List (List ℕ) → List ℕ
joined [] = []
joined (piece ∷ pieces) = add_piece piece (joined pieces)
