-- Days as numbers: how many days lie between 1970-01-01 and the day, in the Gregorian calendar.
use Rattle.std.specs.Prelude.{ℕ, zero, suc, ◌≡◌, ◌+◌, ◌-◌, ◌*◌, ◌/◌, ◌%◌, ◌<◌, ◌≤◌, ◌⊎◌, min, Bool, if◌then◌else◌, List}
use Rattle.std.specs.Prelude.{[], ◌∷◌, ◌++◌, ℤ, pos, negsuc, ◌-ℤ◌, unsigned_abs, int_le}
use Rattle.jiff_core.specs.Calendar.{IsBetween, IsCivilDate, days_in_month, days_from_civil}

-- A day of the book lies from 1900-01-01 to 2199-12-31.
abbrev pub IsDay : ℤ → Type 0
IsDay day = IsBetween (negsuc 25566) (pos 84005) day

-- A date of the book is one that the calendar has, of a year from 1900 to 2199.
abbrev pub IsBookDate : ℤ → ℕ → ℕ → Type 0
IsBookDate year month day = IsBetween (pos 1900) (pos 2199) year × IsCivilDate year month day

-- The greatest number up to n that passes the test, or 0 where none from 1 on does.
unfoldable pub last_up_to : (ℕ → Bool) → ℕ → ℕ
last_up_to test zero = 0
last_up_to test (suc n) = if test (suc n) then suc n else last_up_to test n

-- The year of a day is the last one whose 1 January is not after it.
unfoldable pub year_of : ℤ → ℤ
year_of day = pos (last_up_to (λ year. int_le (days_from_civil (pos year) 1 1) day) 2199)

-- The month of a day is the last one of its year whose first day is not after it.
unfoldable pub month_of : ℤ → ℕ
month_of day = last_up_to (λ month. int_le (days_from_civil (year_of day) month 1) day) 12

-- The days of a month are counted from 1.
unfoldable pub day_of_month : ℤ → ℕ
day_of_month day = unsigned_abs (day -ℤ days_from_civil (year_of day) (month_of day) 1) + 1

-- The two decimal digits of a number below 100.
abbrev pub two_digits : ℕ → List ℕ
two_digits n = (48 + n / 10) ∷ (48 + n % 10) ∷ []

-- The text of a date is YYYY-MM-DD (ISO 8601, calendar date, extended format).
abbrev pub date_text : ℕ → ℕ → ℕ → List ℕ
date_text year month day =
    two_digits (year / 100) ++ (two_digits (year % 100) ++ (45 ∷ (two_digits month ++ (45 ∷ two_digits day))))

-- A text spells this year, month and day, in four, two and two digits.
abbrev pub IsSpelled : List ℕ → (ℕ × ℕ × ℕ) → Type 0
IsSpelled text date =
    (date.0 < 10000) × (date.1 < 100) × (date.2 < 100) × (text ≡ date_text date.0 date.1 date.2)

-- The text of a day is that of its date.
unfoldable pub day_text : ℤ → List ℕ
day_text day = date_text (unsigned_abs (year_of day)) (month_of day) (day_of_month day)

-- Each byte of a day's text is a decimal digit or a hyphen.
abbrev pub IsDayByte : ℕ → Type 0
IsDayByte byte = ((48 ≤ byte) × (byte ≤ 57)) ⊎ (byte ≡ 45)

-- Months are counted on through the years, twelve a year.
abbrev pub month_count : ℤ → ℕ → ℕ
month_count day months = unsigned_abs (year_of day) * 12 + (month_of day - 1) + months

-- The day of that number in a month, or the last of a month that has fewer days.
unfoldable pub clipped_day : ℤ → ℕ → ℕ → ℤ
clipped_day year month day = days_from_civil year month (min day (days_in_month year month))

-- Some months after a day comes the day of the same number in its month, or the last of a month that is shorter.
unfoldable pub months_later : ℤ → ℕ → ℤ
months_later day months =
    clipped_day (pos (month_count day months / 12)) (month_count day months % 12 + 1) (day_of_month day)
