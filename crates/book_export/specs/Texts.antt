-- Texts as the journal has them, each on one line: the num and the description of a transaction, and the memo of a
-- split (rule of this project). They are no keys: a program shows them and compares none.
use Rattle.std.specs.Prelude.{ℕ, ◌==◌, nat_lt, Bool, false, ◌&&◌, ◌||◌, not, if◌then◌else◌, List, [], ◌∷◌, ◌++◌, codes}
use Rattle.std.specs.List.{flat_map}
use Rattle.book_export.specs.Names.{blank_bytes, is_control, is_nothing}
use Rattle.book_export.specs.declared.texts.Place.{Place}
use Rattle.book_export.specs.declared.texts.Place.TheVariants.{Code, Description, Memo}

-- A byte of a line: a control character becomes a blank (32).
abbrev pub line_byte : ℕ → List ℕ
line_byte byte = if is_control byte then 32 ∷ [] else byte ∷ []

-- A byte of a text. A closing bracket (41) would end a num, and a semicolon (59) a description: they are
-- percent-encoded. In a memo a blank stands before each colon (58) and behind each opening square bracket (91), so that
-- no tag and no date is read in it.
abbrev pub shown_byte : Place → ℕ → List ℕ
shown_byte Code byte = if byte == 41 then codes "%29" else line_byte byte
shown_byte Description byte = if byte == 59 then codes "%3B" else line_byte byte
shown_byte Memo byte = if byte == 58 then codes " :" else (if byte == 91 then codes "[ " else line_byte byte)

unfoldable pub shown : Place → List ℕ → List ℕ
shown place text = flat_map (shown_byte place) text

-- Whether a description needs a num before it, even an empty one, since its first byte would be read as a mark, `*`
-- (42) or `!` (33), or as the bracket (40) of a num, or is a blank before such a byte, also a Unicode blank.
abbrev pub begins_as_more : List ℕ → Bool
begins_as_more [] = false
begins_as_more (byte ∷ rest) =
    is_control byte || (byte == 32) || (byte == 33) || (byte == 40) || (byte == 42)
    || nat_lt 0 (blank_bytes (byte ∷ rest))

-- The num of a transaction in brackets, with a blank behind it; nothing where there is none and none is needed.
abbrev pub code : List ℕ → List ℕ → List ℕ
code num description =
    if is_nothing num && not (begins_as_more description) then [] else 40 ∷ (shown Code num ++ codes ") ")

-- The memo of a split as a comment; nothing where there is none.
abbrev pub note : List ℕ → List ℕ
note memo = if is_nothing memo then [] else codes "  ; " ++ shown Memo memo
