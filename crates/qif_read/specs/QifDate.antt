-- Dates in QIF files: three numbers with marks between them, as 1/15'24 or 15.01.2024 (Quicken's description of QIF,
-- code D).
use Rattle.std.specs.Prelude.{ℕ, ◌+◌, ◌==◌, Bool, ◌&&◌, ◌||◌, List, drop, take_while, length, slice_index, Option, None}
use Rattle.std.specs.Prelude.{unwrap_or, if◌then◌else◌, ℤ, pos}
use Rattle.std.specs.Char.{is_ascii_digit}
use Rattle.std.specs.List.{prefix_len}
use Rattle.book_statement.specs.Dates.{date, year_of_two}
use Rattle.book_statement.specs.Numbers.{has_digits, number}
use Rattle.qif_read.specs.declared.order.DateOrder.{DateOrder}
use Rattle.qif_read.specs.declared.order.DateOrder.TheVariants.{MonthDay, DayMonth}

-- What stands behind the spaces in front.
unfoldable pub behind_spaces : List ℕ → List ℕ
behind_spaces text = drop (prefix_len (λ b. b == 32) text) text

-- A number: the digits behind the spaces in front.
unfoldable pub numeral : List ℕ → List ℕ
numeral text = take_while is_ascii_digit (behind_spaces text)

-- What stands behind that number.
unfoldable pub behind_numeral : List ℕ → List ℕ
behind_numeral text = drop (prefix_len is_ascii_digit (behind_spaces text)) (behind_spaces text)

-- The parts of a date: the first two numbers, the mark behind each (0 where nothing stands there), and the year, which
-- is all that is left.
pub record DateParts : Type 0 where
  pub first : List ℕ
  pub mark : ℕ
  pub second : List ℕ
  pub year_mark : ℕ
  pub year : List ℕ

-- A date of these parts.
abbrev pub parts_of : List ℕ → ℕ → List ℕ → ℕ → List ℕ → DateParts
parts_of first mark second year_mark year =
    record { first = first; mark = mark; second = second; year_mark = year_mark; year = year }

-- The parts of a text, from the front on.
abbrev pub date_parts : List ℕ → DateParts
date_parts text =
    let behind_first = behind_numeral text in
    let behind_second = behind_numeral (drop 1 behind_first) in
    parts_of (numeral text) (slice_index behind_first 0) (numeral (drop 1 behind_first)) (slice_index behind_second 0)
    (behind_spaces (drop 1 behind_second))

-- A slash, a hyphen or a point.
abbrev pub is_mark : ℕ → Bool
is_mark byte = (byte == 47) || ((byte == 45) || (byte == 46))

-- Before the year an apostrophe may stand too.
abbrev pub is_year_mark : ℕ → Bool
is_year_mark byte = is_mark byte || (byte == 39)

-- A year has one, two or four digits.
abbrev pub is_year : List ℕ → Bool
is_year digits = has_digits 1 2 digits || has_digits 4 4 digits

-- The first two numbers have one or two digits.
unfoldable pub is_date_form : DateParts → Bool
is_date_form parts =
    has_digits 1 2 parts.first && (is_mark parts.mark
    && (has_digits 1 2 parts.second && (is_year_mark parts.year_mark && is_year parts.year)))

-- Four digits are the year itself; fewer behind an apostrophe are years from 2000 on, and fewer behind another mark
-- are a year of two digits.
unfoldable pub year_said : ℕ → List ℕ → ℕ
year_said mark digits =
    if length digits == 4 then number digits
    else (if mark == 39 then 2000 + number digits else year_of_two (number digits))

-- The day of a year that two numbers name, in the order of month and day.
abbrev pub day_in : DateOrder → ℕ → ℕ → ℕ → Option ℤ
day_in MonthDay year first second = date year first second
day_in DayMonth year first second = date year second first

-- The day that parts name, where they have the form of a date.
abbrev pub day_of_parts : DateOrder → DateParts → Option ℤ
day_of_parts order parts =
    let year = year_said parts.year_mark parts.year in
    if is_date_form parts then day_in order year (number parts.first) (number parts.second) else None

-- The day that a text names; none where it has not the form of a date, or the calendar has no such day from 1900 to
-- 2199.
unfoldable pub day_named : DateOrder → List ℕ → Option ℤ
day_named order text = day_of_parts order (date_parts text)

-- The day that a text names; it only matters where there is one.
abbrev pub day_read : DateOrder → List ℕ → ℤ
day_read order text = unwrap_or (day_named order text) (pos 0)
