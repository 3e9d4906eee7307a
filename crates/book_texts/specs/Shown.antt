-- The data that stands for each kind of value in an answer.
use Rattle.std.specs.Prelude.{◌≡◌, ◌||◌, ℕ, ℤ, pos, negsuc, List, [], ◌∷◌, map, Option, Some, None, false, refl}
use mathlib.Core.Path.{ap, ◌∙◌}
use Rattle.std.specs.Fmt.{signed_decimal}
use Rattle.serde_json.specs.Data.{Data, number, unsigned, string, array, null}
use Rattle.serde_json.specs.Find.{of_integer}
use Rattle.serde_json.specs.View.{items_of}
use Rattle.serde_json.specs.Written.{has_float, items_have_float}
use Rattle.book_commodity.specs.Day.{day_text}

-- The number of a thing, a count or a version.
abbrev pub number_data : ℕ → Data
number_data n = number (unsigned n)

-- An amount that fits 64 bits: a number with sign.
abbrev pub signed_data : ℤ → Data
signed_data z = number (of_integer z)

-- It has no fraction.
pub signed-plain : (z : ℤ) → has_float (signed_data z) ≡ false
signed-plain (pos n) = refl
signed-plain (negsuc n) = refl

-- A sum, which can pass 64 bits: the text of its decimal digits, with a minus sign where it is below zero.
abbrev pub sum_data : ℤ → Data
sum_data sum = string (signed_decimal sum)

-- A day: its text.
abbrev pub day_data : ℤ → Data
day_data day = string (day_text day)

-- What may be absent, shown in one way where it stands; null where it is absent.
abbrev pub option_data : {X : Type 0} → (X → Data) → Option X → Data
option_data present_data None = null
option_data present_data (Some x) = present_data x

-- No number of it has a fraction where none has one that stands.
pub option-plain : {X : Type 0} (present_data : X → Data) → ((x : X) → has_float (present_data x) ≡ false)
    → (given : Option X) → has_float (option_data present_data given) ≡ false
option-plain present_data plain None = refl
option-plain present_data plain (Some x) = plain x

-- A list, each item shown in one way.
abbrev pub list_data : {X : Type 0} → (X → Data) → List X → Data
list_data item_data xs = array (items_of (map item_data xs))

-- No number of a list has a fraction where no number of its items has one.
pub list-plain : {X : Type 0} (item_data : X → Data) → ((x : X) → has_float (item_data x) ≡ false) → (xs : List X)
    → has_float (list_data item_data xs) ≡ false
list-plain item_data plain [] = refl
list-plain item_data plain (x ∷ xs) =
    ap (λ float. float || items_have_float (items_of (map item_data xs))) (plain x) ∙ list-plain item_data plain xs
