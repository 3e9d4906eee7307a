-- The entry date of a line has no year: it is taken from the value date.
use Rattle.std.specs.Prelude.{
  ℕ,
  ◌+◌,
  ◌-◌,
  nat_lt,
  List,
  take,
  drop,
  Option,
  Some,
  None,
  if◌then◌else◌,
  ℤ,
  ◌-ℤ◌,
  unsigned_abs,
}
use Rattle.book_statement.specs.Dates.{date, year_of_two}
use Rattle.book_statement.specs.Numbers.{number}

-- How many days lie between two days.
abbrev pub distance : ℤ → ℤ → ℕ
distance a b = unsigned_abs (a -ℤ b)

-- Of two days, of which either may not be, the one that lies nearer to a day; the first one at a tie.
abbrev pub nearer : ℤ → Option ℤ → Option ℤ → Option ℤ
nearer to None b = b
nearer to (Some a) None = Some a
nearer to (Some a) (Some b) = if nat_lt (distance b to) (distance a to) then Some b else Some a

-- The day of a month and a day of the month, in the year or one of its two neighbours, that lies nearest to the value
-- date; the earlier one at a tie. A year without that date does not count.
unfoldable pub entry_day : ℕ → ℤ → ℕ → ℕ → Option ℤ
entry_day year value month day =
    nearer value (nearer value (date (year - 1) month day) (date year month day)) (date (year + 1) month day)

-- The day that four digits MMDD name beside a value date YYMMDD (SWIFT, MT940 field 61, entry date).
unfoldable pub entry_date : List ℕ → ℤ → List ℕ → Option ℤ
entry_date value_date value text =
    entry_day (year_of_two (number (take 2 value_date))) value (number (take 2 text)) (number (take 2 (drop 2 text)))
