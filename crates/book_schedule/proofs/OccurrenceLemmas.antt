-- Occurrences come in order, and those past the range come last.
use Rattle.std.specs.Prelude.{IsSome}
use Rattle.std.proofs.Common.{Option, None, ◌≡◌, ℕ, ◌+◌, ◌-◌, ◌*◌, ◌<◌, ◌≤◌, nat_le, nat_lt, true, false, inl, inr}
use Rattle.std.proofs.Common.{refl, sym, subst, arith, ℤ, pos, negsuc, ◌+ℤ◌, ◌<ℤ◌, ◌≤ℤ◌, mul-le-mul}
use Rattle.std.proofs.lemmas.Bool.{cases_lt}
use Rattle.std.proofs.lemmas.Int.{by_lt_z}
use Rattle.jiff_core.specs.Calendar.{weekday_number}
use Rattle.jiff_core.proofs.SignedLemmas.{signed_arith}
use Rattle.jiff_core.proofs.CalendarLemmas.{weekday_number_bound, weekday_number-add}
use Rattle.book_commodity.specs.Day.{IsDay, day_of_month, month_count}
use Rattle.book_commodity.proofs.DayLemmas.{date_of_day}
use Rattle.book_schedule.specs.Recurrence.{first_of_month, last_of_month, numbered_day, weekday_from, last_weekday}
use Rattle.book_schedule.specs.Recurrence.{nth_weekday, ordinal, day_after, adjusted, adjustment, nth_day, Repeats}
use Rattle.book_schedule.specs.Recurrence.{HasOccurrence}
use Rattle.book_schedule.specs.declared.recurrence.Adjust.{Adjust}
use Rattle.book_schedule.specs.declared.recurrence.Adjust.TheVariants.{Nothing, Back, Forward}
use Rattle.book_schedule.specs.declared.recurrence.Recurrence.{Recurrence}
use Rattle.book_schedule.specs.declared.recurrence.RecurrenceKind.{RecurrenceKind}
use Rattle.book_schedule.specs.declared.recurrence.RecurrenceKind.TheVariants.{Once, Daily, Weekly, Monthly, EndOfMonth}
use Rattle.book_schedule.specs.declared.recurrence.RecurrenceKind.TheVariants.{NthWeekday, LastWeekday, Yearly}
use Rattle.book_schedule.proofs.MonthLemmas.{IsIn, last_of_month_bounds, first_of_month_later, last_of_month_before}
use Rattle.book_schedule.proofs.MonthLemmas.{day_in_range, month_of_day, month_of_day_range, numbered_day_in}
use Rattle.book_schedule.proofs.MonthLemmas.{weekday_up_to_bounds, weekday_from_bounds}
use borrow.Author.Differences.{up, down}

-- a day is moved by two days at most
pub adjusted_bounds :
    (adjust : Adjust) (day : ℤ) → (day ≤ℤ (adjusted adjust day +ℤ pos 2)) × (adjusted adjust day ≤ℤ (day +ℤ pos 2))
unfolding adjusted
adjusted_bounds Nothing day = (omega (arith, signed_arith), omega (arith, signed_arith))
adjusted_bounds Back day =
    let week = weekday_number_bound day in (omega (arith, signed_arith, week), omega (arith, signed_arith, week))
adjusted_bounds Forward day =
    let week = weekday_number_bound day in
    elim (cases_lt 4 (weekday_number day)) [
      | inl lt ↦ let test : nat_lt 4 (weekday_number day) ≡ true = grind arith in
          rw test (omega (arith, signed_arith, week), omega (arith, signed_arith, week))
      | inr ge ↦ let test : nat_lt 4 (weekday_number day) ≡ false = grind arith in
          rw test (omega (arith, signed_arith, week), omega (arith, signed_arith, week))
    ]

-- and keeps its place among the others
pub adjusted_rises : (adjust : Adjust) (day later : ℤ) → day ≤ℤ later → adjusted adjust day ≤ℤ adjusted adjust later
unfolding adjusted
adjusted_rises Nothing day later h = h
adjusted_rises Back day later h =
    let k : ℕ = up later + down day - (down later + up day) in
    let e : later ≡ day +ℤ pos k = omega (arith, signed_arith) in
    let moved = weekday_number-add day later k e in
    let week = weekday_number_bound day in
    omega (arith, signed_arith, moved, week)
adjusted_rises Forward day later h =
    let k : ℕ = up later + down day - (down later + up day) in
    let e : later ≡ day +ℤ pos k = omega (arith, signed_arith) in
    let moved = weekday_number-add day later k e in
    let week = weekday_number_bound day in
    let then = weekday_number_bound later in
    elim (cases_lt 4 (weekday_number day)) [
      | inl lt ↦ elim (cases_lt 4 (weekday_number later)) [
        | inl lt₂ ↦ let test : nat_lt 4 (weekday_number day) ≡ true = grind arith in
            let test₂ : nat_lt 4 (weekday_number later) ≡ true = grind arith in
            rw (test, test₂) (omega (arith, signed_arith, moved, week))
        | inr ge₂ ↦ let test : nat_lt 4 (weekday_number day) ≡ true = grind arith in
            let test₂ : nat_lt 4 (weekday_number later) ≡ false = grind arith in
            rw (test, test₂) (omega (arith, signed_arith, moved, week))
      ]
      | inr ge ↦ elim (cases_lt 4 (weekday_number later)) [
        | inl lt₂ ↦ let test : nat_lt 4 (weekday_number day) ≡ false = grind arith in
            let test₂ : nat_lt 4 (weekday_number later) ≡ true = grind arith in
            rw (test, test₂) (omega (arith, signed_arith, moved, week))
        | inr ge₂ ↦ let test : nat_lt 4 (weekday_number day) ≡ false = grind arith in
            let test₂ : nat_lt 4 (weekday_number later) ≡ false = grind arith in
            rw (test, test₂) (omega (arith, signed_arith, moved, week))
      ]
    ]

-- the first day of the range is a Monday and the day past its end a Wednesday
adjusted-first : (adjust : Adjust) → adjusted adjust (negsuc 25566) ≡ negsuc 25566
unfolding adjusted weekday_number
adjusted-first Nothing = refl
adjusted-first Back = refl
adjusted-first Forward = refl

adjusted-end : (adjust : Adjust) → adjusted adjust (pos 84006) ≡ pos 84006
unfolding adjusted weekday_number
adjusted-end Nothing = refl
adjusted-end Back = refl
adjusted-end Forward = refl

pub adjusted_from_first : (adjust : Adjust) (day : ℤ) → negsuc 25566 ≤ℤ day → negsuc 25566 ≤ℤ adjusted adjust day
adjusted_from_first adjust day h =
    omega (arith, signed_arith, adjusted-first adjust, adjusted_rises adjust (negsuc 25566) day h)

-- a day past the range is not moved back into it
pub adjusted_past_end : (adjust : Adjust) (day : ℤ) → pos 84005 <ℤ day → pos 84005 <ℤ adjusted adjust day
adjusted_past_end adjust day h =
    omega (
      arith,
      signed_arith,
      adjusted-end adjust,
      adjusted_rises adjust (pos 84006) day
          (omega (arith, signed_arith)),
    )

-- the kinds that go by months find a day of the month
pub same_day_in : (start : ℤ) (month : ℕ) → IsDay start → IsIn month (numbered_day month (day_of_month start))
same_day_in start month h = numbered_day_in month (day_of_month start) (date_of_day start h).0.1.2.0

pub end_of_month_in : (month : ℕ) → IsIn month (last_of_month month)
end_of_month_in month =
    let bounds = last_of_month_bounds month in
    record { begun = omega (arith, signed_arith, bounds); ended = omega (arith, signed_arith) }

pub last_weekday_in : (start : ℤ) (month : ℕ) → IsIn month (last_weekday start month)
last_weekday_in start month =
    let bounds = last_of_month_bounds month in
    let found = weekday_up_to_bounds (last_of_month month) (weekday_number start) in
    record { begun = omega (arith, signed_arith, bounds, found); ended = found.1 }

ordinal_in :
    (start first day last : ℤ) → day_of_month start ≤ 28 → (first +ℤ pos 27) ≤ℤ last → first ≤ℤ day
    → day ≤ℤ (first +ℤ pos 6) → (first ≤ℤ (day +ℤ pos (7 * (ordinal start - 1))))
    × ((day +ℤ pos (7 * (ordinal start - 1))) ≤ℤ last)
ordinal_in start first day last h size low high = (omega (arith, signed_arith), omega (arith, signed_arith))

-- a day up to the 28th
pub early_day :
    (start : ℤ) (number : ℕ) → number ≡ day_of_month start → number ≤ 28 → nat_le (day_of_month start) 28 ≡ true
early_day start number e h = grind arith

pub nth_weekday_in : (start : ℤ) (month : ℕ) → IsIn month (nth_weekday start month)
nth_weekday_in start month =
    elim (cases_lt 28 (day_of_month start)) [
      | inl lt ↦ let test : nat_le (day_of_month start) 28 ≡ false = grind arith in
          rw test (last_weekday_in start month)
      | inr le ↦
          let test : nat_le (day_of_month start) 28 ≡ true = grind arith in
          let bounds = last_of_month_bounds month in
          let found = weekday_from_bounds (first_of_month month) (weekday_number start) in
          let here = ordinal_in start (first_of_month month)
          (weekday_from (first_of_month month) (weekday_number start)) (last_of_month month) le bounds.0 found.0
          found.1 in
          rw test record { begun = here.0; ended = here.1 }
    ]

-- so many months on, the month's number is so much greater
pub month_count-add : (day : ℤ) (months : ℕ) → month_count day months ≡ month_count day 0 + months
month_count-add day months = omega arith

-- days of months in order are in order
in_order : (month later : ℕ) (day then : ℤ) → IsIn month day → IsIn later then → month < later → day ≤ℤ then
in_order month later day then h k lt =
    let ended = h.ended in
    let begun = k.begun in
    omega (arith, signed_arith, last_of_month_before month later lt)

-- by months, the day of a later step is not earlier
by_months_rises :
    (day : ℕ → ℤ) (start : ℤ) → ((month : ℕ) → IsIn month (day month)) → (a b : ℕ) → a ≤ b
    → day (month_count start a) ≤ℤ day (month_count start b)
by_months_rises day start within a b h =
    elim (cases_lt a b) [
      | inl lt ↦ in_order (month_count start a) (month_count start b) _ _ (within _) (within _) (omega arith)
      | inr ge ↦ let same : a ≡ b = omega arith in rw same (omega (arith, signed_arith))
    ]

-- the day of a later step is not earlier
pub day_after_rises :
    (kind : RecurrenceKind) (start : ℤ) (a b : ℕ) → IsDay start → a ≤ b
    → day_after kind start a ≤ℤ day_after kind start b
day_after_rises Once start a b day h = omega (arith, signed_arith)
day_after_rises Daily start a b day h = omega (arith, signed_arith)
day_after_rises Weekly start a b day h = omega (arith, signed_arith)
day_after_rises Monthly start a b day h =
    by_months_rises (λ month. numbered_day month (day_of_month start)) start (λ month. same_day_in start month day) a
    b h
day_after_rises EndOfMonth start a b day h = by_months_rises last_of_month start end_of_month_in a b h
day_after_rises NthWeekday start a b day h = by_months_rises (nth_weekday start) start (nth_weekday_in start) a b h
day_after_rises LastWeekday start a b day h = by_months_rises (last_weekday start) start (last_weekday_in start) a b h
day_after_rises Yearly start a b day h =
    by_months_rises (λ month. numbered_day month (day_of_month start)) start (λ month. same_day_in start month day)
    (12 * a) (12 * b) (omega arith)

in_from_first :
    (start : ℤ) (months : ℕ) (day : ℤ) → IsDay start → IsIn (month_count start months) day → negsuc 25566 ≤ℤ day
in_from_first start months day h k =
    let own = month_of_day_range start h in
    let first = day_in_range 22800 (first_of_month 22800) (omega arith)
    (omega arith) record {
      begun = omega (arith, signed_arith);
      ended =
          omega (arith, signed_arith, last_of_month_bounds 22800);
    } in
    let begun = k.begun in
    let low = first.0 in
    omega (arith, signed_arith, first_of_month_later 22800 (month_count start months) (omega (arith, own)))

-- no step leads before the range
pub day_after_from_first :
    (kind : RecurrenceKind) (start : ℤ) (steps : ℕ) → IsDay start → negsuc 25566 ≤ℤ day_after kind start steps
day_after_from_first Once start steps h = h.0
day_after_from_first Daily start steps h = omega (arith, signed_arith, h.0)
day_after_from_first Weekly start steps h = omega (arith, signed_arith, h.0)
day_after_from_first Monthly start steps h =
    in_from_first start steps _ h (same_day_in start (month_count start steps) h)
day_after_from_first EndOfMonth start steps h =
    in_from_first start steps _ h (end_of_month_in (month_count start steps))
day_after_from_first NthWeekday start steps h =
    in_from_first start steps _ h (nth_weekday_in start (month_count start steps))
day_after_from_first LastWeekday start steps h =
    in_from_first start steps _ h (last_weekday_in start (month_count start steps))
day_after_from_first Yearly start steps h =
    in_from_first start (12 * steps) _ h (same_day_in start (month_count start (12 * steps)) h)

-- from two months on, the day lies further on than so many days and the two of the weekend
by_months_grows :
    (start : ℤ) (steps months : ℕ) (day : ℤ) → IsDay start → 2 ≤ steps → steps ≤ months
    → IsIn (month_count start months) day → (start +ℤ pos (steps + 2)) ≤ℤ day
by_months_grows start steps months day h two few k =
    let own = month_of_day start h in
    let ended = own.ended in
    let begun = k.begun in
    omega (
      arith,
      signed_arith,
      last_of_month_bounds (month_count start 0),
      first_of_month_later (month_count start 0)
          (month_count start months) (omega arith),
    )

moved_grows :
    (adjust : Adjust) (start day : ℤ) (steps : ℕ) → (start +ℤ pos (steps + 2)) ≤ℤ day
    → (start +ℤ pos steps) ≤ℤ adjusted adjust day
moved_grows adjust start day steps h = omega (arith, signed_arith, adjusted_bounds adjust day)

-- so many steps lead at least so many days on
pub day_grows :
    (kind : RecurrenceKind) (adjust : Adjust) (start : ℤ) (k steps : ℕ) → Repeats kind k → 2 ≤ k → IsDay start
    → 2 ≤ steps → (start +ℤ pos steps) ≤ℤ adjusted (adjustment kind adjust) (day_after kind start steps)
unfolding adjusted
day_grows Once adjust start k steps once many day two = absurd (omega arith)
day_grows Daily adjust start k steps once many day two = omega (arith, signed_arith)
day_grows Weekly adjust start k steps once many day two = omega (arith, signed_arith)
day_grows Monthly adjust start k steps once many day two =
    moved_grows adjust start _ steps
    (by_months_grows start steps steps _ day two (omega arith) (same_day_in start (month_count start steps) day))
day_grows EndOfMonth adjust start k steps once many day two =
    moved_grows adjust start _ steps
    (by_months_grows start steps steps _ day two (omega arith) (end_of_month_in (month_count start steps)))
day_grows NthWeekday adjust start k steps once many day two =
    moved_grows Nothing start _ steps
    (by_months_grows start steps steps _ day two (omega arith) (nth_weekday_in start (month_count start steps)))
day_grows LastWeekday adjust start k steps once many day two =
    moved_grows Nothing start _ steps
    (by_months_grows start steps steps _ day two (omega arith) (last_weekday_in start (month_count start steps)))
day_grows Yearly adjust start k steps once many day two =
    moved_grows adjust start _ steps
    (by_months_grows start steps (12 * steps) _ day two (omega arith)
    (same_day_in start (month_count start (12 * steps)) day))

times_le : (j k every : ℕ) → j ≤ k → j * every ≤ k * every
times_le j k every h = mul-le-mul h (omega arith)

-- occurrences come in order
pub nth_day_rises : (r : Recurrence) (j k : ℕ) → IsDay r.start → j ≤ k → nth_day r j ≤ℤ nth_day r k
unfolding nth_day
nth_day_rises r j k day h =
    adjusted_rises (adjustment r.kind r.adjust) _ _
    (day_after_rises r.kind r.start (j * r.every) (k * r.every) day (times_le j k r.every h))

repeats_before : (kind : RecurrenceKind) (j k : ℕ) → Repeats kind k → j ≤ k → Repeats kind j
repeats_before Once j k once h = omega arith
repeats_before Daily j k once h = once
repeats_before Weekly j k once h = once
repeats_before Monthly j k once h = once
repeats_before EndOfMonth j k once h = once
repeats_before NthWeekday j k once h = once
repeats_before LastWeekday j k once h = once
repeats_before Yearly j k once h = once

nth_day_from_first : (r : Recurrence) (k : ℕ) → IsDay r.start → negsuc 25566 ≤ℤ nth_day r k
unfolding nth_day
nth_day_from_first r k day =
    adjusted_from_first (adjustment r.kind r.adjust) _ (day_after_from_first r.kind r.start (k * r.every) day)

-- where there is an occurrence, there are all before it
pub occurrence_before : (r : Recurrence) (j k : ℕ) → IsDay r.start → j ≤ k → HasOccurrence r k → HasOccurrence r j
occurrence_before r j k day h has =
    let high = has.1.1 in (
      repeats_before r.kind j k has.0 h,
      (nth_day_from_first r j day, omega (arith, signed_arith, nth_day_rises r j k day h)),
    )

-- a recurrence has at most as many occurrences as the range has days
pub occurrence_bound : (r : Recurrence) (k : ℕ) → IsDay r.start → 1 ≤ r.every → HasOccurrence r k → k < 109573
unfolding nth_day
occurrence_bound r k day some has =
    elim (cases_lt k 2) [
      | inl lt ↦ omega arith
      | inr many ↦
          let steps : k * 1 ≤ k * r.every = mul-le-mul (omega arith) some in
          let grown = day_grows r.kind r.adjust r.start k (k * r.every) has.0 many day (omega arith) in
          omega (arith, signed_arith, has.1.1, day.0)
    ]

-- where no day lies so many steps on, there is no occurrence
pub no_occurrence :
    {A : Type 0} (result : Option A) (r : Recurrence) (k steps : ℕ) → result ≡ None → IsDay r.start
    → steps ≡ k * r.every → (IsDay (day_after r.kind r.start steps) → false ≡ true)
    → (IsSome result → HasOccurrence r k) × (HasOccurrence r k → IsSome result)
unfolding nth_day
no_occurrence result r k steps none day e early =
    let past : IsDay (adjusted (adjustment r.kind r.adjust) (day_after r.kind r.start steps)) → ⊥ =
    λ moved. by_lt_z (pos 84005) (day_after r.kind r.start steps)
    (λ lt. let high = adjusted_past_end (adjustment r.kind r.adjust) (day_after r.kind r.start steps) lt in let low =
    moved.1 in omega (arith, signed_arith))
    (λ le. let is : false ≡ true = early (day_after_from_first r.kind r.start steps day, le) in cc) in
    (λ some. (let is : false ≡ true = rw none at some in absurd cc), λ has. absurd (past (rw e has.1)))

-- where one does, there is an occurrence if its day, moved, is one of the book
pub some_occurrence :
    {A : Type 0} (result : Option A) (r : Recurrence) (k steps : ℕ) (adjust : Adjust) (day : ℤ) → Repeats r.kind k
    → steps ≡ k * r.every → day ≡ day_after r.kind r.start steps → adjust ≡ adjustment r.kind r.adjust
    → (IsSome result → IsDay (adjusted adjust day)) × (IsDay (adjusted adjust day) → IsSome result)
    → (IsSome result → HasOccurrence r k) × (HasOccurrence r k → IsSome result)
unfolding nth_day
some_occurrence result r k steps adjust day repeats e is by h =
    let same : adjusted adjust day ≡ nth_day r k = rw (is, by, e) refl in
    (λ some. (repeats, subst (λ d. IsDay d) same (h.0 some)), λ has. h.1 (subst (λ d. IsDay d) (sym same) has.1))

pub nth_day-parts :
    (r : Recurrence) (k steps : ℕ) (adjust : Adjust) (day : ℤ) → steps ≡ k * r.every
    → day ≡ day_after r.kind r.start steps → adjust ≡ adjustment r.kind r.adjust → adjusted adjust day ≡ nth_day r k
unfolding nth_day
nth_day-parts r k steps adjust day e is by = rw (is, by, e) refl

-- occurrence 0 is there for every kind, and the later ones for all that come again
pub repeats_first : (kind : RecurrenceKind) (k : ℕ) → k ≡ 0 → Repeats kind k
repeats_first Once k e = e
repeats_first Daily k e = tt
repeats_first Weekly k e = tt
repeats_first Monthly k e = tt
repeats_first EndOfMonth k e = tt
repeats_first NthWeekday k e = tt
repeats_first LastWeekday k e = tt
repeats_first Yearly k e = tt

pub repeats_other : (kind : RecurrenceKind) (k : ℕ) → (kind ≡ Once → ⊥) → Repeats kind k
repeats_other Once k h = absurd (h refl)
repeats_other Daily k h = tt
repeats_other Weekly k h = tt
repeats_other Monthly k h = tt
repeats_other EndOfMonth k h = tt
repeats_other NthWeekday k h = tt
repeats_other LastWeekday k h = tt
repeats_other Yearly k h = tt
