-- The forms of members: numbers, truths, texts, days, words of a table, lists of a form and objects inside.
use Rattle.std.specs.Prelude.{ℕ, ◌+◌, ◌-◌, ◌*◌, ◌^◌, ◌&&◌, ℤ, pos, negsuc, List, [], ◌∷◌, slice_index, Bool, nat_lt}
use Rattle.std.specs.Prelude.{int_le, bytes_eq, if◌then◌else◌, Option, Some, None, option_map, option_and_then}
use Rattle.std.specs.Prelude.{Result, Ok, Err}
use Rattle.jiff_core.specs.Calendar.{days_from_civil}
use Rattle.book_commodity.specs.Day.{day_text}
use Rattle.serde_json.specs.Data.{Items, no_items, item}
use Rattle.serde_json.specs.Find.{as_bool, as_number, as_str, as_array, as_object, as_u64, as_i64}
use Rattle.book_json.specs.Members.{Form, Reader, complete}
use Rattle.book_json.specs.Words.{named}

-- Numbers of things and counts are below 2^62.
abbrev pub below_limit : ℕ → Option ℕ
below_limit n = if nat_lt n (2 ^ 62) then Some n else None

-- A whole number from 0 to 2^62 - 1, written with neither point nor exponent.
unfoldable pub whole : Form ℕ
whole d = option_and_then below_limit (option_and_then as_u64 (as_number d))

-- A whole number of 64 bits with sign, written with neither point nor exponent; `-0` is none.
unfoldable pub whole_signed : Form ℤ
whole_signed d = option_and_then as_i64 (as_number d)

-- `true` or `false`.
abbrev pub flag_form : Form Bool
flag_form = as_bool

-- A text.
abbrev pub text_form : Form (List ℕ)
text_form = as_str

-- The text, where it is not empty.
abbrev pub unless_empty : List ℕ → Option (List ℕ)
unless_empty [] = None
unless_empty (byte ∷ bytes) = Some (byte ∷ bytes)

-- A text that is not empty.
unfoldable pub filled : Form (List ℕ)
filled d = option_and_then unless_empty (as_str d)

-- The number that the two decimal digits at a place of a text spell.
abbrev pub digits_at : List ℕ → ℕ → ℕ
digits_at text place = (slice_index text place - 48) * 10 + (slice_index text (place + 1) - 48)

-- The day of the year, the month and the day of the month that stand in the places of YYYY-MM-DD.
abbrev pub day_in_places : List ℕ → ℤ
day_in_places text =
    days_from_civil (pos (digits_at text 0 * 100 + digits_at text 2)) (digits_at text 5) (digits_at text 8)

-- Whether a day lies from 1900-01-01 to 2199-12-31.
abbrev pub is_day : ℤ → Bool
is_day day = int_le (negsuc 25566) day && int_le day (pos 84005)

-- The day that a text names: the one in its places, where it is a day of the book and the text is its text.
unfoldable pub day_named : List ℕ → Option ℤ
day_named text =
    let day = day_in_places text in
    if is_day day && bytes_eq text (day_text day) then Some day else None

-- The text of a day.
unfoldable pub day_form : Form ℤ
day_form d = option_and_then day_named (as_str d)

-- A text that is one of a table's words, byte for byte.
abbrev pub among : {X : Type 0} → List (List ℕ × X) → Form X
among table d = option_and_then (named table) (as_str d)

-- What each item stands for, where all of them are of the form.
abbrev pub each : {X : Type 0} → Form X → Items → Option (List X)
each form no_items = Some []
each form (item d ds) = option_and_then (λ x. option_map (λ xs. x ∷ xs) (each form ds)) (form d)

-- A list whose items are all of the form.
abbrev pub list : {X : Type 0} → Form X → Form (List X)
list form d = option_and_then (each form) (as_array d)

-- The value, where nothing failed.
abbrev pub unless_failed : {X : Type 0} → Result X (List ℕ) → Option X
unless_failed (Ok x) = Some x
unless_failed (Err name) = None

-- An object inside, read to its end; it is of another form where any of its members fails.
abbrev pub inner : {X : Type 0} → Reader X → Form X
inner reader d = option_and_then (λ ms. unless_failed (complete reader ms)) (as_object d)
