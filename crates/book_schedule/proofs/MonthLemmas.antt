-- Months follow one another: where each begins and ends, and which days lie in it.
use Rattle.std.specs.Prelude.{IsSome}
use Rattle.std.proofs.Common.{Option, None, true, false, ◌≡◌, ℕ, zero, suc, ◌+◌, ◌-◌, ◌*◌, ◌/◌, ◌%◌, ◌<◌, ◌≤◌, min, inl}
use Rattle.std.proofs.Common.{inr, refl, ap, ◌∙◌, subst, arith, ℤ, pos, negsuc, ◌+ℤ◌, ◌≤ℤ◌, unsigned_abs}
use Rattle.std.proofs.lemmas.Bool.{cases_lt}
use Rattle.jiff_core.specs.Calendar.{days_from_civil, day_count, days_of_years, days_of_months, days_in_month}
use Rattle.jiff_core.proofs.SignedLemmas.{signed_arith}
use Rattle.jiff_core.proofs.CalendarLemmas.{days_in_month_bounds}
use Rattle.jiff_core.proofs.DateLemmas.{days_from_civil-day, days_from_civil-next_month, days_from_civil-next_year}
use Rattle.book_commodity.specs.Day.{IsDay, year_of, month_of, day_of_month, month_count, clipped_day}
use Rattle.book_commodity.proofs.DayLemmas.{date_of_day, pos-unsigned_abs}
use Rattle.book_schedule.specs.Recurrence.{first_of_month, last_of_month, numbered_day, weekday_from, weekday_up_to}

-- the range begins with one month and ends before another
first_of_month-first : first_of_month 22800 ≡ negsuc 25566
unfolding first_of_month days_from_civil day_count days_of_years days_of_months
first_of_month-first = refl

first_of_month-end : first_of_month 26400 ≡ pos 84006
unfolding first_of_month days_from_civil day_count days_of_years days_of_months
first_of_month-end = refl

-- a month has 28 to 31 days
pub last_of_month_bounds :
    (month : ℕ) → ((first_of_month month +ℤ pos 27) ≤ℤ last_of_month month)
    × (last_of_month month ≤ℤ (first_of_month month +ℤ pos 30))
unfolding first_of_month last_of_month
last_of_month_bounds month =
    let year : ℤ = pos (month / 12) in
    let size = days_in_month_bounds year (month % 12 + 1) in
    let day = days_from_civil-day year (month % 12 + 1) 1 (days_in_month year (month % 12 + 1)) (omega arith)
    (omega (arith, size)) in
    (omega (arith, signed_arith, size, day), omega (arith, signed_arith, size, day))

next_month : (month : ℕ) → month % 12 < 11 → first_of_month (month + 1) ≡ last_of_month month +ℤ pos 1
unfolding first_of_month last_of_month
next_month month h =
    let year : (month + 1) / 12 ≡ month / 12 = omega arith in
    let place : (month + 1) % 12 ≡ month % 12 + 1 = omega arith in
    rw (year, place) (days_from_civil-next_month (pos (month / 12)) (month % 12 + 1) _ (omega arith) refl)

next_year : (month : ℕ) → month % 12 ≡ 11 → first_of_month (month + 1) ≡ last_of_month month +ℤ pos 1
unfolding first_of_month last_of_month
next_year month h =
    let year : (month + 1) / 12 ≡ month / 12 + 1 = omega arith in
    let place : (month + 1) % 12 ≡ 0 = omega arith in
    rw (year, place, h) (days_from_civil-next_year (pos (month / 12)) (pos (month / 12 + 1))
    (omega (arith, signed_arith)) (omega (arith, signed_arith)))

-- a month begins the day after the one before it ends
pub first_of_month-next : (month : ℕ) → first_of_month (month + 1) ≡ last_of_month month +ℤ pos 1
first_of_month-next month =
    elim (cases_lt (month % 12) 11) [ inl lt ↦ next_month month lt | inr ge ↦ next_year month (omega arith) ]

-- so many months later, at least 28 times as many days have passed
pub first_of_month-add : (month k : ℕ) → (first_of_month month +ℤ pos (28 * k)) ≤ℤ first_of_month (month + k)
first_of_month-add month zero = let same : month + 0 ≡ month = omega arith in rw same (omega (arith, signed_arith))
first_of_month-add month (suc k) =
    let same : month + suc k ≡ month + k + 1 = omega arith in
    rw (same, first_of_month-next (month + k))
    (omega (arith, signed_arith, first_of_month-add month k, last_of_month_bounds (month + k)))

pub first_of_month_later :
    (month later : ℕ) → month ≤ later → (first_of_month month +ℤ pos (28 * (later - month))) ≤ℤ first_of_month later
first_of_month_later month later h =
    let same : month + (later - month) ≡ later = omega arith in rw same at (first_of_month-add month (later - month))

-- a month ends before a later one begins
pub last_of_month_before :
    (month later : ℕ) → month < later
    → (last_of_month month +ℤ pos (28 * (later - (month + 1)) + 1)) ≤ℤ first_of_month later
last_of_month_before month later h =
    omega (arith, signed_arith, first_of_month_later (month + 1) later (omega arith), first_of_month-next month)

-- a day lies in a month
pub record IsIn (month : ℕ) (day : ℤ) : Type 0 where
  pub begun : first_of_month month ≤ℤ day
  pub ended : day ≤ℤ last_of_month month

-- the days of the months from January 1900 to December 2199 are those of the book
pub day_in_range : (month : ℕ) (day : ℤ) → 22800 ≤ month → month < 26400 → IsIn month day → IsDay day
day_in_range month day low high h =
    let begun = h.begun in
    let ended = h.ended in (
      omega (arith, signed_arith, first_of_month_later 22800 month low, first_of_month-first),
      omega
          (arith, signed_arith, last_of_month_before month 26400 high, first_of_month-end),
    )

pub day_past_range : (month : ℕ) (day : ℤ) → 26400 ≤ month → IsIn month day → IsDay day → ⊥
day_past_range month day low h within =
    let begun = h.begun in
    let high = within.1 in
    omega (arith, signed_arith, first_of_month_later 26400 month low, first_of_month-end)

-- a day lies in the month with its number
pub month_of_day : (day : ℤ) → IsDay day → IsIn (month_count day 0) day
unfolding first_of_month last_of_month
month_of_day day h =
    let own = date_of_day day h in
    let date = own.0 in
    let y : ℕ = unsigned_abs (year_of day) in
    let back : pos y ≡ year_of day = pos-unsigned_abs (year_of day) (omega (arith, signed_arith, date.0.0)) in
    let year : (y * 12 + (month_of day - 1) + 0) / 12 ≡ y = omega (arith, date.1.1) in
    let month : (y * 12 + (month_of day - 1) + 0) % 12 + 1 ≡ month_of day = omega (arith, date.1.1) in
    let begun = days_from_civil-day (year_of day) (month_of day) 1 (day_of_month day) (omega arith) date.1.2.0 in
    let ended = days_from_civil-day (year_of day) (month_of day) (day_of_month day)
    (days_in_month (year_of day) (month_of day)) date.1.2.0 (omega (arith, date.1.2)) in
    record {
      begun = rw (year, month, back) (omega (arith, signed_arith, own.1, begun, date.1.2.0));
      ended = rw (year, month, back) (omega (arith, signed_arith, own.1, ended, date.1.2.1));
    }

pub month_of_day_range : (day : ℤ) → IsDay day → (22800 ≤ month_count day 0) × (month_count day 0 < 26400)
month_of_day_range day h =
    let own = date_of_day day h in
    let date = own.0 in
    let y : ℕ = unsigned_abs (year_of day) in
    let back : pos y ≡ year_of day = pos-unsigned_abs (year_of day) (omega (arith, signed_arith, date.0.0)) in
    let bounds : (1900 ≤ y) × (y ≤ 2199) = (omega (arith, signed_arith, date.0), omega (arith, signed_arith, date.0)) in
    (omega (arith, bounds, date.1.1), omega (arith, bounds, date.1.1))

pub numbered_day_in : (month number : ℕ) → 1 ≤ number → IsIn month (numbered_day month number)
unfolding first_of_month last_of_month numbered_day clipped_day
numbered_day_in month number h =
    let year : ℤ = pos (month / 12) in
    let place : ℕ = month % 12 + 1 in
    let last : ℕ = days_in_month year place in
    let size = days_in_month_bounds year place in
    let here : 1 ≤ min number last = omega (arith, size) in
    let begun = days_from_civil-day year place 1 (min number last) (omega arith) here in
    let ended = days_from_civil-day year place (min number last) last here (omega (arith, size)) in
    record { begun = omega (arith, signed_arith, begun, here); ended = omega (arith, signed_arith, ended) }

pub first_of_month-numbered : (month : ℕ) → numbered_day month 1 ≡ first_of_month month
unfolding first_of_month numbered_day clipped_day
first_of_month-numbered month =
    let size = days_in_month_bounds (pos (month / 12)) (month % 12 + 1) in
    let e : min 1 (days_in_month (pos (month / 12)) (month % 12 + 1)) ≡ 1 = omega (arith, size) in rw e refl

pub last_of_month-numbered : (month : ℕ) → numbered_day month 31 ≡ last_of_month month
unfolding last_of_month numbered_day clipped_day
last_of_month-numbered month =
    let size = days_in_month_bounds (pos (month / 12)) (month % 12 + 1) in
    let e : min 31 (days_in_month (pos (month / 12)) (month % 12 + 1)) ≡ days_in_month (pos (month / 12))
    (month % 12 + 1) = omega (arith, size) in
    ap (days_from_civil (pos (month / 12)) (month % 12 + 1)) e

pub weekday_up_to_bounds :
    (day : ℤ) (weekday : ℕ) → (day ≤ℤ (weekday_up_to day weekday +ℤ pos 6)) × (weekday_up_to day weekday ≤ℤ day)
unfolding weekday_up_to
weekday_up_to_bounds day weekday = (omega (arith, signed_arith), omega (arith, signed_arith))

pub weekday_from_bounds :
    (day : ℤ) (weekday : ℕ) → (day ≤ℤ weekday_from day weekday) × (weekday_from day weekday ≤ℤ (day +ℤ pos 6))
unfolding weekday_from
weekday_from_bounds day weekday = (omega (arith, signed_arith), omega (arith, signed_arith))

-- the day of a month as it is made from a year and a month that were cast
pub numbered_day-parts :
    (day wide narrow : ℤ) (month number place cast last least : ℕ) → day ≡ days_from_civil wide place least
    → last ≡ days_in_month narrow cast → least ≡ min number last → wide ≡ pos (month / 12) → narrow ≡ pos (month / 12)
    → place ≡ month % 12 + 1 → cast ≡ month % 12 + 1 → day ≡ numbered_day month number
unfolding numbered_day clipped_day
numbered_day-parts day wide narrow month number place cast last least is end low w n p k =
    is ∙ (rw (w, p, low, end, n, k) refl)

-- where a month lies past the range, none of its days is one of the book
pub no_day_past :
    {A : Type 0} (result : Option A) (first months month : ℕ) (day : ℤ) → result ≡ None
    → (first + months < 26400 → false ≡ true) → month ≡ first + months → IsIn month day → (IsSome result → IsDay day)
    × (IsDay day → IsSome result)
no_day_past result first months month day none early e h =
    let late : first + months < 26400 → ⊥ = λ lt. absurd (cc (early lt)) in (
      λ some. (let e : false ≡ true = rw none at some in absurd cc),
      λ is.
          absurd (day_past_range month day (omega arith) h is),
    )

pub some_along :
    {A : Type 0} (result : Option A) (found day : ℤ) → (IsSome result → IsDay found) × (IsDay found → IsSome result)
    → found ≡ day → (IsSome result → IsDay day) × (IsDay day → IsSome result)
some_along result found day h e = subst (λ d. (IsSome result → IsDay d) × (IsDay d → IsSome result)) e h
