-- The date of a day is the one date of the range that has its number.
use Rattle.std.proofs.Common.{◌≡◌, ℕ, zero, suc, ◌+◌, ◌-◌, ◌*◌, ◌/◌, ◌%◌, ◌<◌, ◌≤◌, inl, inr, Bool, true, false, refl}
use Rattle.std.proofs.Common.{sym, ap, ◌∙◌, subst, arith, rules, ℤ, pos, negsuc, ◌-ℤ◌, ◌<ℤ◌, ◌≤ℤ◌, unsigned_abs, int_le}
use Rattle.std.proofs.Common.{to_z, of_z, w16, w32, w64}
use Rattle.std.proofs.lemmas.Bool.{cases_order}
use Rattle.std.proofs.lemmas.Int.{ints}
use Rattle.jiff_core.specs.declared.civil.date.Date.{Date}
use Rattle.jiff_core.specs.Calendar.{days_from_civil, day_count, days_of_years, days_of_months, days_in_month}
use Rattle.jiff_core.specs.Calendar.{IsBetween, IsCivilDate, IsYear}
use Rattle.jiff_core.proofs.SignedLemmas.{signed_arith}
use Rattle.jiff_core.proofs.CalendarLemmas.{days_from_civil-day_count, day_count-lt_year, days_in_month_bounds}
use Rattle.jiff_core.proofs.DateLemmas.{epoch_day_injective, days_from_civil-day, days_from_civil-next_month}
use Rattle.jiff_core.proofs.DateLemmas.{days_from_civil-next_year}
use Rattle.book_commodity.specs.Day.{IsDay, IsBookDate, last_up_to, year_of, month_of, day_of_month, months_later}
use Rattle.book_commodity.specs.Day.{clipped_day}

-- the last number that passes, and those above it
pub last_up_to_bound : (test : ℕ → Bool) (n : ℕ) → last_up_to test n ≤ n
unfolding last_up_to
last_up_to_bound test zero = omega arith
last_up_to_bound test (suc n) = grind (arith, last_up_to_bound test n)

pub last_up_to_passes :
    (test : ℕ → Bool) (n j : ℕ) → j ≤ n → test j ≡ true → (test (last_up_to test n) ≡ true) × (j ≤ last_up_to test n)
unfolding last_up_to
last_up_to_passes test zero j low pass =
    let same : j ≡ 0 = omega arith in (subst (λ k. test k ≡ true) same pass, omega arith)
last_up_to_passes test (suc n) j low pass = grind (arith, last_up_to_passes test n j)

pub last_up_to_fails : (test : ℕ → Bool) (n j : ℕ) → last_up_to test n < j → j ≤ n → test j ≡ false
unfolding last_up_to
last_up_to_fails test zero j above low = absurd (omega arith)
last_up_to_fails test (suc n) j above low = grind (arith, last_up_to_fails test n j)

-- the ends of the range
days_from_civil-1900 : days_from_civil (pos 1900) 1 1 ≡ negsuc 25566
unfolding days_from_civil day_count days_of_years days_of_months
days_from_civil-1900 = refl

days_from_civil-1899_end : days_from_civil (pos 1899) 12 31 ≡ negsuc 25567
unfolding days_from_civil day_count days_of_years days_of_months
days_from_civil-1899_end = refl

days_from_civil-2199_end : days_from_civil (pos 2199) 12 31 ≡ pos 84005
unfolding days_from_civil day_count days_of_years days_of_months
days_from_civil-2199_end = refl

days_from_civil-2200 : days_from_civil (pos 2200) 1 1 ≡ pos 84006
unfolding days_from_civil day_count days_of_years days_of_months
days_from_civil-2200 = refl

-- a date of the years 1900 to 2199 is a day of the range
pub book_date_is_day : (year : ℤ) (month day : ℕ) → IsBookDate year month day → IsDay (days_from_civil year month day)
book_date_is_day year month day h =
    let low = day_count-lt_year (pos 1899) 12 31 year month day (search rules) h.1.2.0 (omega (arith, signed_arith)) in
    let high = day_count-lt_year year month day (pos 2200) 1 1 h.1 (omega arith) (omega (arith, signed_arith)) in
    omega (
      arith,
      signed_arith,
      low,
      high,
      days_from_civil-day_count year month day,
      days_from_civil-day_count
          (pos 1899) 12 31,
      days_from_civil-day_count (pos 2200) 1 1,
      days_from_civil-1899_end,
      days_from_civil-2200,
    )

-- a date of a later year is none
pub later_year_is_no_day :
    (year : ℤ) (month day : ℕ) → pos 2199 <ℤ year → 1 ≤ day → IsDay (days_from_civil year month day) → ⊥
later_year_is_no_day year month day late first within =
    let low = day_count-lt_year (pos 2199) 12 31 year month day (search rules) first late in
    omega (
      arith,
      signed_arith,
      low,
      days_from_civil-day_count year month day,
      days_from_civil-day_count
          (pos 2199) 12 31,
      days_from_civil-2199_end,
    )

pub le_of_test : (a b : ℤ) → int_le a b ≡ true → a ≤ℤ b
le_of_test a b e = omega (arith, ints, e)

pub test_of_le : (a b : ℤ) → a ≤ℤ b → int_le a b ≡ true
test_of_le a b h = grind (arith, ints)

lt_of_test : (a b : ℤ) → int_le a b ≡ false → b <ℤ a
lt_of_test a b e = omega (arith, ints, e)

-- where the year of a day lies, and where the day lies in it
pub record IsYearOf (day : ℤ) (year : ℤ) : Type 0 where
  pub low : pos 1900 ≤ℤ year
  pub high : year ≤ℤ pos 2199
  pub begun : days_from_civil year 1 1 ≤ℤ day
  pub ended : day ≤ℤ days_from_civil year 12 31

abbrev year_begun : ℤ → ℕ → Bool
year_begun day year = int_le (days_from_civil (pos year) 1 1) day

abbrev month_begun : ℤ → ℕ → Bool
month_begun day month = int_le (days_from_civil (year_of day) month 1) day

-- a year that is the last to have begun has not ended
year_ended :
    (day : ℤ) (year : ℕ) → day ≤ℤ pos 84005 → (year < 2199 → day <ℤ days_from_civil (pos (year + 1)) 1 1)
    → year ≤ 2199 → day ≤ℤ days_from_civil (pos year) 12 31
year_ended day year last next high =
    elim (cases_order year 2199) [
      | inr (inl lt) ↦ omega (
        arith,
        signed_arith,
        next lt,
        days_from_civil-next_year (pos year) (pos (year + 1))
            (search rules) (omega (arith, signed_arith)),
      )
      | inl e ↦ rw e (omega (arith, signed_arith, days_from_civil-2199_end))
      | inr (inr gt) ↦ absurd (omega arith)
    ]

pub year_of_day : (day : ℤ) → IsDay day → IsYearOf day (year_of day)
unfolding year_of
year_of_day day h =
    let test : ℕ → Bool = year_begun day in
    let first : test 1900 ≡ true =
    test_of_le (days_from_civil (pos 1900) 1 1) day (omega (arith, signed_arith, days_from_civil-1900)) in
    let passes = last_up_to_passes test 2199 1900 (omega arith) first in
    let bound = last_up_to_bound test 2199 in
    let year : ℕ = last_up_to test 2199 in
    let next : year < 2199 → day <ℤ days_from_civil (pos (year + 1)) 1 1 =
    λ lt. lt_of_test (days_from_civil (pos (year + 1)) 1 1) day
    (last_up_to_fails test 2199 (year + 1) (omega arith) (omega arith)) in
    record {
      low = omega (arith, signed_arith, passes.1);
      high = omega (arith, signed_arith, bound);
      begun = le_of_test (days_from_civil (pos year) 1 1) day passes.0;
      ended = year_ended day year h.1 next bound;
    }

-- where the month of a day lies, and where the day lies in it
pub record IsMonthOf (day : ℤ) (year : ℤ) (month : ℕ) : Type 0 where
  pub low : 1 ≤ month
  pub high : month ≤ 12
  pub begun : days_from_civil year month 1 ≤ℤ day
  pub ended : day ≤ℤ days_from_civil year month (days_in_month year month)

-- a month that is the last to have begun has not ended
month_ended :
    (day year : ℤ) (month : ℕ) → day ≤ℤ days_from_civil year 12 31
    → (month < 12 → day <ℤ days_from_civil year (month + 1) 1) → 1 ≤ month → month ≤ 12
    → day ≤ℤ days_from_civil year month (days_in_month year month)
month_ended day year month last next low high =
    elim (cases_order month 12) [
      | inr (inl lt) ↦ omega (
        arith,
        signed_arith,
        next lt,
        days_from_civil-next_month year month
            (days_in_month year month) low refl,
      )
      | inl e ↦ rw e last
      | inr (inr gt) ↦ absurd (omega arith)
    ]

pub month_of_day : (day : ℤ) → IsDay day → IsMonthOf day (year_of day) (month_of day)
unfolding month_of
month_of_day day h =
    let year = year_of_day day h in
    let test : ℕ → Bool = month_begun day in
    let first : test 1 ≡ true = test_of_le (days_from_civil (year_of day) 1 1) day year.begun in
    let passes = last_up_to_passes test 12 1 (omega arith) first in
    let bound = last_up_to_bound test 12 in
    let month : ℕ = last_up_to test 12 in
    let next : month < 12 → day <ℤ days_from_civil (year_of day) (month + 1) 1 =
    λ lt. lt_of_test (days_from_civil (year_of day) (month + 1) 1) day
    (last_up_to_fails test 12 (month + 1) (omega arith) (omega arith)) in
    record {
      low = passes.1;
      high = bound;
      begun = le_of_test (days_from_civil (year_of day) month 1) day passes.0;
      ended = month_ended day (year_of day) month year.ended next passes.1 bound;
    }

pub pos-unsigned_abs : (z : ℤ) → pos 0 ≤ℤ z → pos (unsigned_abs z) ≡ z
pos-unsigned_abs (pos n) h = refl
pos-unsigned_abs (negsuc n) h = absurd (omega (arith, signed_arith))

-- the day of the month is one that the month has, and it leads back to the day
day_in_month :
    (day year : ℤ) (month number : ℕ) → IsMonthOf day year month
    → number ≡ unsigned_abs (day -ℤ days_from_civil year month 1) + 1 → (1 ≤ number)
    × (number ≤ days_in_month year month) × (days_from_civil year month number ≡ day)
day_in_month day year month number h e =
    let size = days_in_month_bounds year month in
    let whole = days_from_civil-day year month 1 (days_in_month year month) (omega arith) (omega arith) in
    let low : 1 ≤ number = omega (arith, e) in
    let here = days_from_civil-day year month 1 number (omega arith) low in
    let begun = h.begun in
    let ended = h.ended in
    let since = pos-unsigned_abs (day -ℤ days_from_civil year month 1) (omega (arith, signed_arith)) in
    (low, omega (arith, signed_arith, since), omega (arith, signed_arith, since))

-- the date of a day is a date of the book, and the day is the one of that date
pub date_of_day :
    (day : ℤ) → IsDay day → IsBookDate (year_of day) (month_of day) (day_of_month day)
    × (days_from_civil (year_of day) (month_of day) (day_of_month day) ≡ day)
unfolding day_of_month
date_of_day day h =
    let year = year_of_day day h in
    let month = month_of_day day h in
    let here = day_in_month day (year_of day) (month_of day) _ month refl in (
      (
        (year.low, year.high),
        (
          omega (arith, signed_arith, year.low, year.high),
          (month.low, month.high),
          (here.0, here.1),
        ),
      ),
      here.2,
    )

date_at : (year : ℤ) (month day : ℕ) → IsCivilDate year month day → Date
date_at year month day h = record { year = year; month = month; day = day; year_in = h.0; month_in = h.1; day_in = h.2 }

-- two dates with one number are one date
pub same_date :
    (y z : ℤ) (m n d e : ℕ) → IsCivilDate y m d → IsCivilDate z n e → days_from_civil y m d ≡ days_from_civil z n e
    → (y ≡ z) × (m ≡ n) × (d ≡ e)
unfolding date_at
same_date y z m n d e h k same = epoch_day_injective (date_at y m d h) (date_at z n e k) same

-- a date of the calendar whose number is a day of the range is the date of that day
pub date_is :
    (day year : ℤ) (month number : ℕ) → IsDay day → IsCivilDate year month number
    → days_from_civil year month number ≡ day → (year ≡ year_of day) × (month ≡ month_of day)
    × (number ≡ day_of_month day)
date_is day year month number h civil e =
    let own = date_of_day day h in
    same_date _ _ _ _ _ _ civil own.0.1 (e ∙ sym own.1)

-- the year of a date as it is cast from 16 bits to 32
pub wide_year : (year : ℤ) → IsYear year → to_z w32 (of_z w32 (to_z w16 (of_z w16 year))) ≡ year
wide_year year h = omega (arith, ints, h)

-- the number of a day as it is cast from 32 bits to 64
pub wide_day : (day : ℤ) → IsDay day → to_z w64 (of_z w64 (to_z w32 (of_z w32 day))) ≡ day
wide_day day h = omega (arith, ints, h)

-- the parts of a date whose number is a day
pub record IsDateOf (date : Date) (day : ℤ) : Type 0 where
  pub year : to_z w32 (of_z w32 (to_z w16 (of_z w16 date.year))) ≡ year_of day
  pub month : date.month ≡ month_of day
  pub day_of : date.day ≡ day_of_month day

pub date_parts :
    (date : Date) (day wide : ℤ) → IsDay day → wide ≡ day → days_from_civil date.year date.month date.day ≡ wide
    → IsDateOf date day
date_parts date day wide h same e =
    let parts = date_is day date.year date.month date.day h (date.year_in, date.month_in, date.day_in) (e ∙ same) in
    record { year = wide_year date.year date.year_in ∙ parts.0; month = parts.1; day_of = parts.2 }

-- the months of a day are counted from its date
pub months_later-parts :
    (day year : ℤ) (months size month number : ℕ) → year ≡ year_of day → IsBetween (pos 1900) (pos 2199) year
    → size ≡ unsigned_abs (to_z w32 (of_z w32 year)) → month ≡ month_of day → number ≡ day_of_month day
    → clipped_day (pos ((size * 12 + (month - 1) + months) / 12)) ((size * 12 + (month - 1) + months) % 12 + 1)
    number ≡ months_later day months
unfolding months_later
months_later-parts day year months size month number y within s m n =
    let back : to_z w32 (of_z w32 year) ≡ year = omega (arith, ints, within) in
    let e : size ≡ unsigned_abs (year_of day) = s ∙ ap unsigned_abs (back ∙ y) in
    rw (e, m, n)
