-- The next day of a set: what is passed over, and the earlier of two next days.
use Rattle.std.specs.Prelude.{MatchOption}
use Rattle.std.proofs.Common.{Option, Some, None, ◌≡◌, ℕ, ◌+◌, ◌-◌, ◌*◌, ◌/◌, ◌<◌, ◌≤◌, ◌⊎◌, List, [], ◌∷◌, ◌++◌}
use Rattle.std.proofs.Common.{length, take, get_or, inl, inr, refl, sym, ap, ◌∙◌, subst, arith, ℤ, pos, ◌+ℤ◌, ◌<ℤ◌}
use Rattle.std.proofs.Common.{◌≤ℤ◌, mul-le-mul}
use Rattle.std.proofs.Math.Nat.{div-mul-le_self}
use Rattle.std.proofs.lemmas.List.{take_more}
use Rattle.std.proofs.lemmas.List.Elements.{Contains-push_cases, Contains-append_left}
use Rattle.std.proofs.lemmas.List.Quantifiers.{Any-push}
use Rattle.std.proofs.lemmas.Bool.{cases_lt}
use Rattle.std.proofs.lemmas.Int.{ints, by_lt_z}
use Rattle.std.specs.Int.{int_min}
use Rattle.jiff_core.proofs.SignedLemmas.{signed_arith}
use Rattle.book_commodity.specs.Day.{IsDay, month_count}
use Rattle.book_schedule.specs.DueDays.{IsAfter, IsOnSome, IsUpTo, IsWithin, IsPlanned}
use Rattle.book_schedule.specs.NextDay.{ArePassed, IsNext, earlier_of}
use Rattle.book_schedule.specs.Recurrence.{day_after, adjusted, adjustment, nth_day, HasOccurrence, OccursOn}
use Rattle.book_schedule.specs.declared.recurrence.Adjust.{Adjust}
use Rattle.book_schedule.specs.declared.recurrence.Recurrence.{Recurrence}
use Rattle.book_schedule.specs.declared.recurrence.RecurrenceKind.{RecurrenceKind}
use Rattle.book_schedule.specs.declared.recurrence.RecurrenceKind.TheVariants.{Once, Daily, Weekly, Monthly, EndOfMonth}
use Rattle.book_schedule.specs.declared.recurrence.RecurrenceKind.TheVariants.{NthWeekday, LastWeekday, Yearly}
use Rattle.book_schedule.specs.declared.timing.End.{End}
use Rattle.book_schedule.specs.declared.timing.End.TheVariants.{Never, Until, After}
use Rattle.book_schedule.specs.declared.timing.Timing.{Timing}
use Rattle.book_schedule.proofs.MonthLemmas.{IsIn, last_of_month_before, month_of_day}
use Rattle.book_schedule.proofs.OccurrenceLemmas.{adjusted_bounds, same_day_in, end_of_month_in, nth_weekday_in}
use Rattle.book_schedule.proofs.OccurrenceLemmas.{last_weekday_in, nth_day_rises, occurrence_before, occurrence_bound}

-- so many whole rounds leave one more within
rounds : (k total every : ℕ) → k < total / every → k * every + every ≤ total
rounds k total every h =
    let more : (k + 1) * every ≤ total / every * every = mul-le-mul (omega arith) (omega arith) in
    omega (arith, more, div-mul-le_self total every)

none_in_nothing : (k total every : ℕ) → 1 ≤ every → total ≡ 0 → k < total / every → ⊥
none_in_nothing k total every some none h = let round = rounds k total every h in omega arith

pub passed_daily :
    (r : Recurrence) (given : Option ℤ) (days : ℕ) → r.kind ≡ Daily → 1 ≤ r.every
    → MatchOption given (days ≡ 0) (λ day. 0 < days → r.start +ℤ pos days ≡ day) → ArePassed r given (days / r.every)
unfolding nth_day adjusted
passed_daily r None days kind some none = record { before = λ k h later. none_in_nothing k days r.every some none h }
passed_daily r (Some after) days kind some e = record {
  before = λ k h later.
      let here : nth_day r k ≡ r.start +ℤ pos (k * r.every) = rw kind refl in
      let round = rounds k days r.every h in
      let reached : r.start +ℤ pos days ≡ after = e (omega arith) in
      let late : after <ℤ nth_day r k = later in
      omega (arith, signed_arith);
}

pub passed_weekly :
    (r : Recurrence) (given : Option ℤ) (days : ℕ) → r.kind ≡ Weekly → 1 ≤ r.every
    → MatchOption given (days ≡ 0) (λ day. 0 < days → r.start +ℤ pos days ≡ day)
    → ArePassed r given (days / (7 * r.every))
unfolding nth_day adjusted
passed_weekly r None days kind some none =
    record { before = λ k h later. none_in_nothing k days (7 * r.every) (omega arith) none h }
passed_weekly r (Some after) days kind some e = record {
  before = λ k h later.
      let here : nth_day r k ≡ r.start +ℤ pos (7 * (k * r.every)) = rw kind refl in
      let round = rounds k days (7 * r.every) h in
      let reached : r.start +ℤ pos days ≡ after = e (omega arith) in
      let late : after <ℤ nth_day r k = later in
      omega (arith, signed_arith);
}

-- a day of a month before the last one is not moved past a day
month_passed :
    (adjust : Adjust) (month : ℕ) (day after : ℤ) → IsIn month day → IsDay after → month + 2 ≤ month_count after 0
    → after <ℤ adjusted adjust day → ⊥
month_passed adjust month day after h within early late =
    let own = month_of_day after within in
    let begun = own.begun in
    let ended = h.ended in
    omega (
      arith,
      signed_arith,
      last_of_month_before month (month_count after 0) (omega arith),
      adjusted_bounds adjust
          day,
    )

-- a kind that goes by months finds a day of the month
pub monthly_in :
    (kind : RecurrenceKind) (start : ℤ) (steps : ℕ) → IsDay start → (kind ≡ Once → ⊥) → (kind ≡ Daily → ⊥)
    → (kind ≡ Weekly → ⊥) → (kind ≡ Yearly → ⊥) → IsIn (month_count start steps) (day_after kind start steps)
monthly_in Once start steps day once daily weekly yearly = absurd (once refl)
monthly_in Daily start steps day once daily weekly yearly = absurd (daily refl)
monthly_in Weekly start steps day once daily weekly yearly = absurd (weekly refl)
monthly_in Monthly start steps day once daily weekly yearly = same_day_in start _ day
monthly_in EndOfMonth start steps day once daily weekly yearly = end_of_month_in _
monthly_in NthWeekday start steps day once daily weekly yearly = nth_weekday_in start _
monthly_in LastWeekday start steps day once daily weekly yearly = last_weekday_in start _
monthly_in Yearly start steps day once daily weekly yearly = absurd (yearly refl)

abbrev AreMonthsBefore : Option ℤ → ℤ → ℕ → Type 0
AreMonthsBefore given start months =
    MatchOption given (months ≡ 0) (λ day. IsDay day × (months ≡ month_count day 0 - (month_count start 0 + 1)))

pub passed_monthly :
    (r : Recurrence) (given : Option ℤ) (months : ℕ) → IsDay r.start → 1 ≤ r.every → (r.kind ≡ Once → ⊥)
    → (r.kind ≡ Daily → ⊥) → (r.kind ≡ Weekly → ⊥) → (r.kind ≡ Yearly → ⊥) → AreMonthsBefore given r.start months
    → ArePassed r given (months / r.every)
unfolding nth_day
passed_monthly r None months day some once daily weekly yearly none =
    record { before = λ k h later. none_in_nothing k months r.every some none h }
passed_monthly r (Some after) months day some once daily weekly yearly (within, e) = record {
  before = λ k h later.
      let round = rounds k months r.every h in
      month_passed (adjustment r.kind r.adjust) _ _ after
      (monthly_in r.kind r.start (k * r.every) day once daily weekly yearly) within (omega arith) later;
}

pub passed_yearly :
    (r : Recurrence) (given : Option ℤ) (months : ℕ) → IsDay r.start → 1 ≤ r.every → r.kind ≡ Yearly
    → AreMonthsBefore given r.start months → ArePassed r given (months / (12 * r.every))
unfolding nth_day
passed_yearly r None months day some kind none =
    record { before = λ k h later. none_in_nothing k months (12 * r.every) (omega arith) none h }
passed_yearly r (Some after) months day some kind (within, e) = record {
  before = λ k h later.
      let round = rounds k months (12 * r.every) h in
      let inside : IsIn (month_count r.start (12 * (k * r.every))) (day_after r.kind r.start (k * r.every)) =
      rw kind (same_day_in r.start _ day) in
      month_passed (adjustment r.kind r.adjust) _ _ after inside within (omega arith) later;
}

pub nothing_passed : (r : Recurrence) (given : Option ℤ) → ArePassed r given 0
nothing_passed r given = record { before = λ j lt later. absurd (omega arith) }

pub first_not_passed :
    (r : Recurrence) (after : Option ℤ) (k : ℕ) (day : ℤ) → IsDay r.start → ArePassed r after k → HasOccurrence r k
    → day ≡ nth_day r k → IsAfter after day → IsNext (OccursOn r) after (Some day)
first_not_passed r after k day start passed has e later = (
  (k, has, e),
  later,
  λ other (j, occurs, is) after_it.
      elim (cases_lt j k) [
        | inl lt ↦ absurd (passed.before j lt (subst (λ d. IsAfter after d) is after_it))
        | inr ge ↦ rw (e, is) (nth_day_rises r k j start ge)
      ],
)

pub none_not_passed :
    (r : Recurrence) (after : Option ℤ) (k : ℕ) → IsDay r.start → ArePassed r after k → (HasOccurrence r k → ⊥)
    → IsNext (OccursOn r) after None
none_not_passed r after k start passed never other (j, occurs, is) after_it =
    elim (cases_lt j k) [
      | inl lt ↦ passed.before j lt (subst (λ d. IsAfter after d) is after_it)
      | inr ge ↦ never (occurrence_before r k j start ge occurs)
    ]

pub all_passed :
    (r : Recurrence) (after : Option ℤ) (k : ℕ) → IsDay r.start → 1 ≤ r.every → ArePassed r after k → 109573 ≤ k
    → IsNext (OccursOn r) after None
all_passed r after k start some passed far =
    none_not_passed r after k start passed (λ has. (let few = occurrence_bound r k start some has in omega arith))

pub passed_more :
    (r : Recurrence) (after : Option ℤ) (k : ℕ) → ArePassed r after k → (IsAfter after (nth_day r k) → ⊥)
    → ArePassed r after (k + 1)
passed_more r after k passed here = record {
  before = λ j lt. elim (cases_lt j k) [
    | inl less ↦ passed.before j less
    | inr ge ↦ let same : j ≡ k = omega arith in subst (λ i. IsAfter after (nth_day r i) → ⊥) (sym same) here
  ];
}

-- the next day of two sets together is the earlier of their next days
pub earlier_next :
    (one other both : ℤ → Type 0) (after x y : Option ℤ) → ((d : ℤ) → both d → one d ⊎ other d)
    → ((d : ℤ) → one d → both d) → ((d : ℤ) → other d → both d) → IsNext one after x → IsNext other after y
    → IsNext both after (earlier_of x y)
earlier_next one other both after None None split left right h k = λ d is later.
    elim (split d is) [ inl p ↦ h d p later | inr q ↦ k d q later ]
earlier_next one other both after None (Some y) split left right h k =
    (right y k.0, k.1, λ d is later. elim (split d is) [ inl p ↦ absurd (h d p later) | inr q ↦ k.2 d q later ])
earlier_next one other both after (Some x) None split left right h k =
    (left x h.0, h.1, λ d is later. elim (split d is) [ inl p ↦ h.2 d p later | inr q ↦ absurd (k d q later) ])
earlier_next one other both after (Some x) (Some y) split left right h k =
    by_lt_z y x
    (λ lt. let e : int_min x y ≡ y = grind (arith, ints) in
    rw e (
      right y k.0,
      k.1,
      λ d is later.
          elim (split d is)
          [ inl p ↦ (let low = h.2 d p later in omega (arith, signed_arith)) | inr q ↦ k.2 d q later ],
    ))
    (λ le. let e : int_min x y ≡ x = grind (arith, ints) in
    rw e (
      left x h.0,
      h.1,
      λ d is later.
          elim (split d is)
          [ inl p ↦ h.2 d p later | inr q ↦ (let low = k.2 d q later in omega (arith, signed_arith)) ],
    ))

some_of_push :
    (xs : List Recurrence) (r : Recurrence) (day : ℤ) → IsOnSome (xs ++ r ∷ []) day → IsOnSome xs day ⊎ OccursOn r day
some_of_push xs r day (k, x, lt, e, occurs) =
    elim (Contains-push_cases xs r x (k, lt, e)) [
      | inl old ↦ inl (old.0, x, old.1, old.2, occurs)
      | inr same ↦ inr (subst (λ q. OccursOn q day) (sym same) occurs)
    ]

some_kept : (xs : List Recurrence) (r : Recurrence) (day : ℤ) → IsOnSome xs day → IsOnSome (xs ++ r ∷ []) day
some_kept xs r day (k, x, lt, e, occurs) =
    let there = Contains-append_left xs (r ∷ []) x (k, lt, e) in (there.0, x, there.1, there.2, occurs)

-- the next day of one recurrence more
pub next_more :
    (rs : List Recurrence) (i : ℕ) (r : Recurrence) (after x y : Option ℤ) → i < length rs → r ≡ get_or rs i r
    → IsNext (IsOnSome (take i rs)) after x → IsNext (OccursOn r) after y → IsNext (IsOnSome (take (i + 1) rs)) after
    (earlier_of x y)
next_more rs i r after x y lt e h k =
    let more : take (i + 1) rs ≡ take i rs ++ r ∷ [] = take_more rs i r lt ∙ ap (λ q. take i rs ++ q ∷ []) (sym e) in
    rw more (earlier_next (IsOnSome (take i rs)) (OccursOn r) _ after x y (some_of_push (take i rs) r)
    (some_kept (take i rs) r) (λ d occurs. Any-push (λ q. OccursOn q d) (take i rs) r occurs) h k)

pub next_none : (rs : List Recurrence) (after : Option ℤ) → IsNext (IsOnSome (take 0 rs)) after None
next_none rs after day (k, x, lt, e, occurs) later = absurd (omega arith)

-- a day before one that is within is within
up_to_before : (end : End) (day later : ℤ) → day ≤ℤ later → IsUpTo end later → IsUpTo end day
up_to_before Never day later h up = up
up_to_before (Until last) day later h up = omega (arith, signed_arith)
up_to_before (After count) day later h up = up

within_before : (t : Timing) (upto day later : ℤ) → day ≤ℤ later → IsWithin t upto later → IsWithin t upto day
within_before t upto day later h within =
    let near = within.0 in (omega (arith, signed_arith), up_to_before t.end day later h within.1)

pub planned_none :
    (t : Timing) (upto : ℤ) (after : Option ℤ) → IsNext (IsOnSome t.recurrences) after None
    → IsNext (IsPlanned t upto) after None
planned_none t upto after h day planned later = h day planned.0 later

pub planned_some :
    (t : Timing) (upto : ℤ) (after : Option ℤ) (day : ℤ) → IsNext (IsOnSome t.recurrences) after (Some day)
    → IsWithin t upto day → IsNext (IsPlanned t upto) after (Some day)
planned_some t upto after day h within =
    ((h.0, within), h.1, λ other planned later. h.2 other planned.0 later)

pub planned_past :
    (t : Timing) (upto : ℤ) (after : Option ℤ) (day : ℤ) → IsNext (IsOnSome t.recurrences) after (Some day)
    → (IsWithin t upto day → ⊥) → IsNext (IsPlanned t upto) after None
planned_past t upto after day h past other planned later =
    past (within_before t upto day other (h.2 other planned.0 later) planned.1)
