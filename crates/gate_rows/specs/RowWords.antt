-- What the words of a line `KIND ID HEX` say of a row.
use Rattle.std.specs.Prelude.{ℕ, ◌==◌, List}
use Rattle.std.specs.List.{before_first, after_first}
use Rattle.std.specs.Str.Parse.{digits_value, without_leading_plus}

-- The number that a word spells; a plus may stand before its digits.
abbrev pub number_of : List ℕ → ℕ
number_of word = digits_value 10 (without_leading_plus word)

-- What stands before the first blank of a text: all of it where there is none.
abbrev pub first_word : List ℕ → List ℕ
first_word text = before_first (λ byte. byte == 32) text

-- What stands behind the first blank of a text: nothing where there is none.
abbrev pub behind_word : List ℕ → List ℕ
behind_word text = after_first (λ byte. byte == 32) text

-- The kind.
abbrev pub kind_in : List ℕ → ℕ
kind_in line = number_of (first_word line)

-- The number, or the first one where the word is `FIRST-LAST`.
abbrev pub id_in : List ℕ → ℕ
id_in line = number_of (before_first (λ byte. byte == 45) (first_word (behind_word line)))

-- The digits of the body.
abbrev pub digits_in : List ℕ → List ℕ
digits_in line = behind_word (behind_word line)
