-- Numerals: decimal numbers without sign and without leading zeros.
use Rattle.std.specs.Prelude.{ℕ, ◌^◌, nat_lt, Bool, false, not, ◌&&◌, ◌||◌, ◌==◌, if◌then◌else◌, List, [], ◌∷◌, length}
use Rattle.std.specs.Prelude.{Option, Some, None}
use Rattle.std.specs.Char.{is_ascii_digit}
use Rattle.std.specs.List.{list_all}
use Rattle.std.specs.Str.Parse.{digits_value}

-- A word has decimal digits alone, at least one.
abbrev pub has_digits : List ℕ → Bool
has_digits word = not (length word == 0) && list_all is_ascii_digit word

-- A word begins with the digit zero.
abbrev pub begins_with_zero : List ℕ → Bool
begins_with_zero [] = false
begins_with_zero (byte ∷ more) = byte == 48

-- A word has no zero before another digit.
abbrev pub has_no_leading_zero : List ℕ → Bool
has_no_leading_zero word = not (begins_with_zero word) || (length word == 1)

-- A numeral has decimal digits alone, at least one, without leading zeros.
abbrev pub is_numeral : List ℕ → Bool
is_numeral word = has_digits word && has_no_leading_zero word

-- The number that a word spells, where it is a numeral of a number below 2^62.
abbrev pub number_of : List ℕ → Option ℕ
number_of word =
    if is_numeral word && nat_lt (digits_value 10 word) (2 ^ 62) then Some (digits_value 10 word) else None
