-- The fields of a record: the parts between commas, each with its comma in front (BAI2, fields are delimited by
-- commas).
use Rattle.std.specs.Prelude.{ℕ, ◌+◌, ◌-◌, ◌*◌, ◌==◌, nat_le, Bool, true, false, ◌&&◌, ◌||◌, List, [], ◌∷◌, length}
use Rattle.std.specs.Prelude.{drop, slice_index, count_by, is_some, if◌then◌else◌, ℤ}
use Rattle.std.specs.List.{before_first}
use Rattle.std.specs.Option.{unwrap_or}
use Rattle.book_statement.specs.Dates.{short_date}
use Rattle.book_statement.specs.Numbers.{has_digits, number}
use Rattle.bai2_read.specs.declared.funds.Funds.{Funds}
use Rattle.bai2_read.specs.declared.funds.Funds.TheVariants.{Simple, Distributed, ValueDated, Spread, Strange}

-- What stands behind the first n fields: all from the comma of the next field on.
abbrev pub after_fields : ℕ → List ℕ → List ℕ
after_fields n [] = []
after_fields n (b ∷ bs) =
    if b == 44 then (if n == 0 then b ∷ bs else after_fields (n - 1) bs) else after_fields n bs

-- What stands before the first comma.
abbrev pub up_to_comma : List ℕ → List ℕ
up_to_comma text = before_first (λ b. b == 44) text

-- The field at a place, counted from 0; one that is missing at the end is empty.
unfoldable pub field : ℕ → List ℕ → List ℕ
field n body = up_to_comma (drop 1 (after_fields n body))

-- How many fields there are: each has a comma in front.
abbrev pub field_count : List ℕ → ℕ
field_count body = count_by (λ b. b == 44) body

-- The funds type of an amount by its letter (BAI2, funds type codes): 0, 1, 2 and Z have no further fields, S has three
-- amounts, V a date and a time, and D a count and so many pairs.
abbrev pub funds_of_letter : ℕ → Funds
funds_of_letter c =
    if c == 48 || (c == 49 || (c == 50 || c == 90)) then Simple else
    (if c == 83 then Distributed else (if c == 86 then ValueDated else (if c == 68 then Spread else Strange)))

-- The funds type of a field: empty, or one letter (BAI2, funds type codes); empty has no further fields.
abbrev pub funds_of : List ℕ → Funds
funds_of text =
    if length text == 0 then Simple else
    (if length text == 1 then funds_of_letter (slice_index text 0) else Strange)

-- A count is 1 to 9 digits.
abbrev pub is_count : List ℕ → Bool
is_count text = has_digits 1 9 text

-- The number that a count spells, and 0 where it is none.
unfoldable pub count : List ℕ → ℕ
count text = if is_count text then number text else 0

-- How many fields follow a funds type (BAI2, funds type codes).
abbrev pub fields_of_funds : Funds → List ℕ → ℕ
fields_of_funds Simple from = 0
fields_of_funds Distributed from = 3
fields_of_funds ValueDated from = 2
fields_of_funds Spread from = 1 + 2 * count (field 1 from)
fields_of_funds Strange from = 0

-- How many fields follow the funds type that is the first field here.
unfoldable pub further : List ℕ → ℕ
further from = fields_of_funds (funds_of (field 0 from)) from

-- The fields of S and D have to stand in the record; those of V are empty where they are missing.
abbrev pub has_funds_form : Funds → List ℕ → Bool
has_funds_form Simple from = true
has_funds_form Distributed from = nat_le 4 (field_count from)
has_funds_form ValueDated from = true
has_funds_form Spread from = is_count (field 1 from) && nat_le (2 + 2 * count (field 1 from)) (field_count from)
has_funds_form Strange from = false

-- The first field here is a funds type with the fields that it has to have.
unfoldable pub funds_form : List ℕ → Bool
funds_form from = has_funds_form (funds_of (field 0 from)) from

-- The date of a V: the text of a day, or empty.
abbrev pub value_date : Funds → List ℕ → List ℕ
value_date Simple from = []
value_date Distributed from = []
value_date ValueDated from = field 1 from
value_date Spread from = []
value_date Strange from = []

-- A date that is empty or a day.
abbrev pub is_empty_or_day : List ℕ → Bool
is_empty_or_day text = length text == 0 || is_some (short_date text)

-- The value date of the funds type that is the first field here is empty or a day.
unfoldable pub funds_date : List ℕ → Bool
funds_date from = is_empty_or_day (value_date (funds_of (field 0 from)) from)

-- The value day of a funds type: the date of a V, or else the day given.
unfoldable pub value_day : ℤ → List ℕ → ℤ
value_day day from = unwrap_or (short_date (value_date (funds_of (field 0 from)) from)) day
