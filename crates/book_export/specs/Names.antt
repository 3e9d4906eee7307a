-- Names as the journal has them: those of accounts and of commodities. A name stands there as it is, except that some
-- of its bytes are percent-encoded, so that both readers find its end and different names stay different (rule of this
-- project).
use Rattle.std.specs.Prelude.{ℕ, ◌+◌, ◌-◌, ◌/◌, ◌%◌, ◌==◌, nat_eq, nat_le, nat_lt, max}
use Rattle.std.specs.Prelude.{Bool, true, false, ◌&&◌, ◌||◌, if◌then◌else◌}
use Rattle.std.specs.Prelude.{List, [], ◌∷◌, ◌++◌, length, map, drop, codes}
use Rattle.std.specs.List.{join_with_byte, starts_with}
use Rattle.book_accounts.specs.Path.{name_at, way_down}
use Rattle.book_accounts.specs.declared.account.Account.{Account}

-- Whether a byte is a control character of ASCII.
abbrev pub is_control : ℕ → Bool
is_control byte = nat_lt byte 32 || (byte == 127)

-- A digit of a number in base 16 (RFC 3986, 2.1: in capitals).
abbrev pub hex_digit : ℕ → ℕ
hex_digit digit = if nat_lt digit 10 then 48 + digit else 55 + digit

-- A byte percent-encoded: a percent sign (37) and two digits in base 16 (RFC 3986, 2.1).
abbrev pub encoded : ℕ → List ℕ
encoded byte = 37 ∷ hex_digit (byte / 16) ∷ hex_digit (byte % 16) ∷ []

-- Whether a byte is encoded wherever it stands in a name: a control character; a quotation mark (34), which ends the
-- name of a commodity; a percent sign (37), which begins an encoded byte; a colon (58), which stands between names; and
-- a semicolon (59), which begins a comment.
abbrev pub is_reserved : ℕ → Bool
is_reserved byte = is_control byte || (byte == 34) || (byte == 37) || (byte == 58) || (byte == 59)

-- Whether a byte is encoded, at an edge or within: also a blank (32) is, at an edge.
abbrev pub is_encoded : Bool → ℕ → Bool
is_encoded edge byte = is_reserved byte || ((byte == 32) && edge)

-- A byte as it stands in the journal: encoded, or as it is.
abbrev pub written_byte : Bool → ℕ → List ℕ
written_byte encode byte = if encode then encoded byte else byte ∷ []

-- Whether two bytes are a blank in UTF-8: U+0085 or U+00A0 (RFC 3629, 3; Unicode, PropList, White_Space).
abbrev pub is_blank_of_two : ℕ → ℕ → Bool
is_blank_of_two first second = (first == 194) && ((second == 133) || (second == 160))

-- Whether a byte is the third one of a blank from U+2000 on: U+2000 to U+200A, U+2028, U+2029 or U+202F.
abbrev pub is_third_of_blank : ℕ → Bool
is_third_of_blank third = (nat_le 128 third && nat_le third 138) || (third == 168) || (third == 169) || (third == 175)

-- Whether three bytes are a blank in UTF-8: U+1680, one from U+2000 on, U+205F or U+3000 (the same sources).
abbrev pub is_blank_of_three : ℕ → ℕ → ℕ → Bool
is_blank_of_three first second third =
    ((first == 225) && (second == 154) && (third == 128))
    || ((first == 226) && (second == 128) && is_third_of_blank third)
    || ((first == 226) && (second == 129) && (third == 159))
    || ((first == 227) && (second == 128) && (third == 128))

-- How many bytes at the front of a text are a Unicode blank that is none of ASCII; 0 where there is none.
abbrev pub blank_bytes : List ℕ → ℕ
blank_bytes [] = 0
blank_bytes (_ ∷ []) = 0
blank_bytes (first ∷ second ∷ []) = if is_blank_of_two first second then 2 else 0
blank_bytes (first ∷ second ∷ third ∷ _) =
    if is_blank_of_two first second then 2 else (if is_blank_of_three first second third then 3 else 0)

-- The same where so many bytes at the front are the rest of such a blank.
abbrev pub blank_bytes_left : ℕ → List ℕ → ℕ
blank_bytes_left left text = max left (blank_bytes text)

-- Whether there is no byte.
abbrev pub is_nothing : List ℕ → Bool
is_nothing [] = true
is_nothing (_ ∷ _) = false

-- What a name becomes from some place on, where so many bytes are the rest of a Unicode blank. A blank (32) is at an
-- edge as the first byte, as the last one, and behind another blank, since two blanks end the name of an account. Each
-- byte of a Unicode blank is encoded, since hledger reads most of them as the blank 32.
unfoldable pub written_from : ℕ → Bool → List ℕ → List ℕ
written_from left edge [] = []
written_from left edge (byte ∷ rest) =
    written_byte (nat_lt 0 (blank_bytes_left left (byte ∷ rest)) || is_encoded (edge || is_nothing rest) byte) byte
    ++ written_from (blank_bytes_left left (byte ∷ rest) - 1) (byte == 32) rest

-- A name as it stands in the journal; whether it begins at an edge.
abbrev pub written : Bool → List ℕ → List ℕ
written edge name = written_from 0 edge name

-- Whether a byte at the front of an account would be read as more than a name: a mark, `*` (42) or `!` (33), or the
-- bracket of a virtual posting, `(` (40), `[` (91) or `<` (60).
abbrev pub is_mark : ℕ → Bool
is_mark byte = (byte == 33) || (byte == 40) || (byte == 42) || (byte == 60) || (byte == 91)

abbrev pub begins_with_mark : List ℕ → Bool
begins_with_mark [] = false
begins_with_mark (byte ∷ _) = is_mark byte

-- Whether nothing follows, or a blank.
abbrev pub is_end_of_word : List ℕ → Bool
is_end_of_word [] = true
is_end_of_word (byte ∷ _) = byte == 32

-- Whether a word is the first of a name.
abbrev pub begins_with_word : List ℕ → List ℕ → Bool
begins_with_word name word = starts_with nat_eq name word && is_end_of_word (drop (length word) name)

-- Whether a posting to the account would begin as something else: with a mark or a bracket, or with a word that ledger
-- takes for a command among the postings of a transaction.
abbrev pub begins_as_more : List ℕ → Bool
begins_as_more name =
    begins_with_mark name || begins_with_word name (codes "assert") || begins_with_word name (codes "check")
    || begins_with_word name (codes "expr")

-- A name of which the first byte is encoded, whatever it is.
abbrev pub masked : List ℕ → List ℕ
masked [] = []
masked (byte ∷ rest) = encoded byte ++ written false rest

-- The name of an account in the journal.
abbrev pub journal_name : List ℕ → List ℕ
journal_name name = if begins_as_more name then masked name else written true name

-- The path of an account in the journal: the names on the way down to it, separated by colons; that of the root is
-- empty.
abbrev pub journal_path : List (ℕ × Account) → ℕ → List ℕ
journal_path accounts number =
    join_with_byte 58 (map (λ n. journal_name (name_at accounts n)) (way_down accounts number))
