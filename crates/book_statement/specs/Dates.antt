-- Dates of statement files.
use Rattle.std.specs.Prelude.{
  ℕ,
  ◌+◌,
  nat_le,
  nat_lt,
  Bool,
  ◌&&◌,
  List,
  take,
  drop,
  Option,
  Some,
  None,
  if◌then◌else◌,
  ℤ,
  pos,
}
use Rattle.jiff_core.specs.Calendar.{days_from_civil, days_in_month}
use Rattle.book_statement.specs.Numbers.{has_digits, number}

-- a date of the years 1900 to 2199 that the calendar has
abbrev pub is_date : ℕ → ℕ → ℕ → Bool
is_date year month day =
    nat_le 1900 year && (nat_le year 2199 && (nat_le 1 month && (nat_le month 12
    && (nat_le 1 day && nat_le day (days_in_month (pos year) month)))))

-- the day of a date, where the calendar has it
unfoldable pub date : ℕ → ℕ → ℕ → Option ℤ
date year month day = if is_date year month day then Some (days_from_civil (pos year) month day) else None

-- the year that two digits stand for: 80 to 99 are 1980 to 1999, others 2000 to 2079
abbrev pub year_of_two : ℕ → ℕ
year_of_two digits = if nat_lt digits 80 then 2000 + digits else 1900 + digits

-- the day that six digits YYMMDD name
unfoldable pub short_date : List ℕ → Option ℤ
short_date text =
    if has_digits 6 6 text
    then date (year_of_two (number (take 2 text))) (number (take 2 (drop 2 text))) (number (take 2 (drop 4 text)))
    else None
