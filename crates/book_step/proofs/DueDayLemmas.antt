-- The list of due days has the days that are due by the definition of `book_schedule`, in order, and no other.
use Rattle.std.proofs.Common.{◌≡◌, ℕ, zero, suc, ◌+◌, ◌-◌, ◌*◌, ◌<◌, ◌≤◌, ◌⊎◌, Bool, true, false}
use Rattle.std.proofs.Common.{if◌then◌else◌, List, [], ◌∷◌, length, take, Option, Some, None, ℤ, pos, negsuc, ◌+ℤ◌}
use Rattle.std.proofs.Common.{◌<ℤ◌, ◌≤ℤ◌, int_le, int_lt, All, inl, inr, refl, sym, ap, subst, ◌∙◌, arith}
use Rattle.std.specs.Prelude.{filter}
use Rattle.std.specs.Int.{int_min}
use Rattle.std.specs.List.{Contains}
use Rattle.std.specs.Ordering.{int_eq}
use Rattle.std.proofs.lemmas.Bool.{and_from, and_parts, cases_lt}
use Rattle.std.proofs.lemmas.Bool.Decides.{Decides-int_eq, nat_tests}
use Rattle.std.proofs.lemmas.Int.{by_lt_z, ints}
use Rattle.std.proofs.lemmas.List.{length-take}
use Rattle.std.proofs.lemmas.List.Elements.{All-head, All-tail}
use Rattle.jiff_core.proofs.SignedLemmas.{signed_arith}
use Rattle.book_commodity.specs.Day.{IsDay}
use Rattle.book_schedule.specs.DueDays.{HasAtLeast, IsAfter, IsAllowed, IsBeforeAll, IsDue, IsOnSome, IsOpen, IsPlanned}
use Rattle.book_schedule.specs.DueDays.{IsUpTo}
use Rattle.book_schedule.specs.DueDays.{Lists, Rises}
use Rattle.book_schedule.specs.NextDay.{Follow, IsNext}
use Rattle.book_schedule.specs.Recurrence.{HasOccurrence, OccursOn, Repeats, nth_day}
use Rattle.book_schedule.specs.declared.recurrence.Recurrence.{Recurrence}
use Rattle.book_schedule.specs.declared.recurrence.RecurrenceKind.{RecurrenceKind}
use Rattle.book_schedule.specs.declared.recurrence.RecurrenceKind.TheVariants.{Once, Daily, Weekly, Monthly, EndOfMonth}
use Rattle.book_schedule.specs.declared.recurrence.RecurrenceKind.TheVariants.{NthWeekday, LastWeekday, Yearly}
use Rattle.book_schedule.specs.declared.timing.End.{End}
use Rattle.book_schedule.specs.declared.timing.End.TheVariants.{Never, Until, After}
use Rattle.book_schedule.specs.declared.timing.Timing.{Timing}
use Rattle.book_schedule.proofs.DueLemmas.{few_before, follow_kept, follow_member, follow_rises, follow_whole}
use Rattle.book_schedule.proofs.OccurrenceLemmas.{adjusted_from_first, day_after_from_first, nth_day_rises}
use Rattle.book_schedule.proofs.OccurrenceLemmas.{occurrence_before, occurrence_bound}
use Rattle.book_schedule.specs.Recurrence.{adjustment}
use Rattle.book_step.specs.DueDays.{days_from, days_of, days_of_all, due_days, end_day, is_after, kept, last_day}
use Rattle.book_step.specs.DueDays.{most_occurrences, occurs_up_to, repeats, with_day, with_days}

-- ---- what stands in a list

contains_none : (x : ℤ) → Contains [] x → ⊥
contains_none x (k, lt, e) = omega (arith, lt)

contains_cases : (d : ℤ) (ds : List ℤ) (x : ℤ) → Contains (d ∷ ds) x → (d ≡ x) ⊎ Contains ds x
contains_cases d ds x (zero, lt, e) = inl e
contains_cases d ds x (suc k, lt, e) = inr (k, omega arith, e)

contains_first : (d : ℤ) (ds : List ℤ) (x : ℤ) → d ≡ x → Contains (d ∷ ds) x
contains_first d ds x e = (0, omega arith, e)

contains_later : (d : ℤ) (ds : List ℤ) (x : ℤ) → Contains ds x → Contains (d ∷ ds) x
contains_later d ds x (k, lt, e) = (suc k, omega arith, e)

later_than : (d : ℤ) (ds : List ℤ) (x : ℤ) → IsBeforeAll d ds → Contains ds x → d <ℤ x
later_than d [] x before there = absurd (contains_none x there)
later_than d (e ∷ ds) x before there =
    elim (contains_cases e ds x there) [
      | inl same ↦ subst (λ y. d <ℤ y) same before.0
      | inr later ↦ later_than d ds x before.1 later
    ]

before_less : (e d : ℤ) (ds : List ℤ) → e <ℤ d → IsBeforeAll d ds → IsBeforeAll e ds
before_less e d [] less before = tt
before_less e d (o ∷ ds) less before =
    let next = before.0 in (omega (arith, signed_arith), before_less e d ds less before.1)

-- ---- one day more

has_by :
    (d o : ℤ) (more rest : List ℤ) (x : ℤ) (less same : Bool) → (Contains rest x → (d ≡ x) ⊎ Contains more x)
    → Contains (if less then d ∷ o ∷ more else (if same then o ∷ more else o ∷ rest)) x
    → (d ≡ x) ⊎ Contains (o ∷ more) x
has_by d o more rest x true same old there = contains_cases d (o ∷ more) x there
has_by d o more rest x false true old there = inr there
has_by d o more rest x false false old there =
    elim (contains_cases o rest x there) [
      | inl e ↦ inr (contains_first o more x e)
      | inr later ↦ elim (old later) [ inl e ↦ inl e | inr is ↦ inr (contains_later o more x is) ]
    ]

with_day_has : (d : ℤ) (ds : List ℤ) (x : ℤ) → Contains (with_day d ds) x → (d ≡ x) ⊎ Contains ds x
with_day_has d [] x there = contains_cases d [] x there
with_day_has d (o ∷ more) x there =
    has_by d o more (with_day d more) x (int_lt d o) (int_eq d o) (with_day_has d more x) there

kept_by :
    (d o : ℤ) (more rest : List ℤ) (x : ℤ) (less same : Bool) → int_eq d o ≡ same
    → ((d ≡ x) ⊎ Contains more x → Contains rest x) → (d ≡ x) ⊎ Contains (o ∷ more) x
    → Contains (if less then d ∷ o ∷ more else (if same then o ∷ more else o ∷ rest)) x
kept_by d o more rest x true same is all (inl e) = contains_first d (o ∷ more) x e
kept_by d o more rest x true same is all (inr there) = contains_later d (o ∷ more) x there
kept_by d o more rest x false true is all (inl e) =
    contains_first o more x (sym ((Decides-int_eq d o).0 is) ∙ e)
kept_by d o more rest x false true is all (inr there) = there
kept_by d o more rest x false false is all (inl e) = contains_later o rest x (all (inl e))
kept_by d o more rest x false false is all (inr there) =
    elim (contains_cases o more x there)
    [ inl e ↦ contains_first o rest x e | inr old ↦ contains_later o rest x (all (inr old)) ]

with_day_kept : (d : ℤ) (ds : List ℤ) (x : ℤ) → (d ≡ x) ⊎ Contains ds x → Contains (with_day d ds) x
with_day_kept d [] x (inl e) = contains_first d [] x e
with_day_kept d [] x (inr there) = absurd (contains_none x there)
with_day_kept d (o ∷ more) x is =
    kept_by d o more (with_day d more) x (int_lt d o) (int_eq d o) refl (with_day_kept d more x) is

before_by :
    (e d o : ℤ) (more rest : List ℤ) (less same : Bool) → e <ℤ d → IsBeforeAll e (o ∷ more) → IsBeforeAll e rest
    → IsBeforeAll e (if less then d ∷ o ∷ more else (if same then o ∷ more else o ∷ rest))
before_by e d o more rest true same early before after = (early, before)
before_by e d o more rest false true early before after = before
before_by e d o more rest false false early before after = (before.0, after)

before_with : (e d : ℤ) (ds : List ℤ) → e <ℤ d → IsBeforeAll e ds → IsBeforeAll e (with_day d ds)
before_with e d [] early before = (early, tt)
before_with e d (o ∷ more) early before =
    before_by e d o more (with_day d more) (int_lt d o) (int_eq d o) early before
    (before_with e d more early before.1)

rises_by :
    (d o : ℤ) (more rest : List ℤ) (less same : Bool) → int_lt d o ≡ less → int_eq d o ≡ same → Rises (o ∷ more)
    → (o <ℤ d → IsBeforeAll o rest) → Rises rest
    → Rises (if less then d ∷ o ∷ more else (if same then o ∷ more else o ∷ rest))
rises_by d o more rest true same lt eq r before up =
    let less : d <ℤ o = omega (arith, ints, lt) in ((less, before_less d o more less r.0), r)
rises_by d o more rest false true lt eq r before up = r
rises_by d o more rest false false lt eq r before up =
    by_lt_z o d (λ less. (before less, up))
    (λ le. absurd (let ge : o ≤ℤ d = omega (arith, ints, lt) in
    let same : d ≡ o = omega (arith, signed_arith, ge, le) in
    let yes' = (Decides-int_eq d o).1 same in cc))

with_day_rises : (d : ℤ) (ds : List ℤ) → Rises ds → Rises (with_day d ds)
with_day_rises d [] r = (tt, tt)
with_day_rises d (o ∷ more) r =
    rises_by d o more (with_day d more) (int_lt d o) (int_eq d o) refl refl r
    (λ less. before_with o d more less r.0) (with_day_rises d more r.1)

-- ---- some days more

with_days_has : (ds es : List ℤ) (x : ℤ) → Contains (with_days ds es) x → Contains ds x ⊎ Contains es x
with_days_has [] es x there = inr there
with_days_has (d ∷ ds) es x there =
    elim (with_day_has d (with_days ds es) x there) [
      | inl e ↦ inl (contains_first d ds x e)
      | inr old ↦ elim (with_days_has ds es x old) [ inl is ↦ inl (contains_later d ds x is) | inr is ↦ inr is ]
    ]

with_days_kept : (ds es : List ℤ) (x : ℤ) → Contains ds x ⊎ Contains es x → Contains (with_days ds es) x
with_days_kept [] es x (inl there) = absurd (contains_none x there)
with_days_kept [] es x (inr there) = there
with_days_kept (d ∷ ds) es x (inl there) =
    elim (contains_cases d ds x there) [
      | inl e ↦ with_day_kept d (with_days ds es) x (inl e)
      | inr old ↦ with_day_kept d (with_days ds es) x (inr (with_days_kept ds es x (inl old)))
    ]
with_days_kept (d ∷ ds) es x (inr there) =
    with_day_kept d (with_days ds es) x (inr (with_days_kept ds es x (inr there)))

with_days_rises : (ds es : List ℤ) → Rises es → Rises (with_days ds es)
with_days_rises [] es r = r
with_days_rises (d ∷ ds) es r = with_day_rises d (with_days ds es) (with_days_rises ds es r)

-- ---- the days of one recurrence

repeats_is : (kind : RecurrenceKind) (k : ℕ) → Repeats kind k → repeats kind k ≡ true
repeats_is Once k is = grind (arith, nat_tests, is)
repeats_is Daily k is = refl
repeats_is Weekly k is = refl
repeats_is Monthly k is = refl
repeats_is EndOfMonth k is = refl
repeats_is NthWeekday k is = refl
repeats_is LastWeekday k is = refl
repeats_is Yearly k is = refl

is_repeated : (kind : RecurrenceKind) (k : ℕ) → repeats kind k ≡ true → Repeats kind k
is_repeated Once k e = grind (arith, nat_tests, e)
is_repeated Daily k e = tt
is_repeated Weekly k e = tt
is_repeated Monthly k e = tt
is_repeated EndOfMonth k e = tt
is_repeated NthWeekday k e = tt
is_repeated LastWeekday k e = tt
is_repeated Yearly k e = tt

-- A day is that of an occurrence that is there up to a day.
abbrev IsFound : ℤ → Recurrence → ℤ → Type 0
IsFound limit r x = (j : ℕ) × (nth_day r j ≡ x) × (occurs_up_to limit r j ≡ true)

found_by :
    (limit : ℤ) (r : Recurrence) (k : ℕ) (rest : List ℤ) (x : ℤ) (b : Bool) → occurs_up_to limit r k ≡ b
    → (Contains rest x → IsFound limit r x) → Contains (if b then nth_day r k ∷ rest else []) x → IsFound limit r x
found_by limit r k rest x true is later there =
    elim (contains_cases (nth_day r k) rest x there) [ inl e ↦ (k, e, is) | inr more ↦ later more ]
found_by limit r k rest x false is later there = absurd (contains_none x there)

days_from_has :
    (limit : ℤ) (r : Recurrence) (k most : ℕ) (x : ℤ) → Contains (days_from limit r k most) x → IsFound limit r x
days_from_has limit r k zero x there = absurd (contains_none x there)
days_from_has limit r k (suc most) x there =
    found_by limit r k (days_from limit r (k + 1) most) x (occurs_up_to limit r k) refl
    (days_from_has limit r (k + 1) most x) there

occurs : (limit : ℤ) (r : Recurrence) (j k : ℕ) → IsDay r.start → HasOccurrence r j → nth_day r j ≤ℤ limit → k ≤ j
    → occurs_up_to limit r k ≡ true
occurs limit r j k day has up le =
    let before = occurrence_before r k j day le has in
    let rise = nth_day_rises r k j day le in
    let low : nth_day r k ≤ℤ limit = omega (arith, signed_arith, rise, up) in
    let test : int_le (nth_day r k) limit ≡ true = grind (arith, ints, low) in
    and_from (repeats r.kind k) (int_le (nth_day r k) limit) (repeats_is r.kind k before.0) test

days_from_kept :
    (limit : ℤ) (r : Recurrence) (j k most : ℕ) → IsDay r.start → HasOccurrence r j → nth_day r j ≤ℤ limit → k ≤ j
    → j < k + most → Contains (days_from limit r k most) (nth_day r j)
days_from_kept limit r j k zero day has up le lt = absurd (omega (arith, le, lt))
days_from_kept limit r j k (suc most) day has up le lt =
    let rest = days_from limit r (k + 1) most in
    subst (λ (b : Bool). Contains (if b then nth_day r k ∷ rest else []) (nth_day r j))
    (sym (occurs limit r j k day has up le))
    (elim (cases_lt k j) [
      | inl less ↦ contains_later (nth_day r k) rest (nth_day r j)
          (days_from_kept limit r j (k + 1) most day has up (omega (arith, less)) (omega (arith, lt)))
      | inr more ↦ let same : k ≡ j = omega (arith, le, more) in
          contains_first (nth_day r k) rest (nth_day r j) (ap (nth_day r) same)
    ])

first_day : (r : Recurrence) (k : ℕ) → IsDay r.start → negsuc 25566 ≤ℤ nth_day r k
unfolding nth_day
first_day r k day =
    adjusted_from_first (adjustment r.kind r.adjust) _ (day_after_from_first r.kind r.start (k * r.every) day)

few_occurrences : (r : Recurrence) (k : ℕ) → IsDay r.start → 1 ≤ r.every → HasOccurrence r k → k < 0 + most_occurrences
unfolding most_occurrences
few_occurrences r k day some has = occurrence_bound r k day some has

-- The start of a recurrence is a day of the book, and it steps on.
abbrev pub IsProper : Recurrence → Type 0
IsProper r = IsDay r.start × (1 ≤ r.every)

days_of_has :
    (limit : ℤ) (r : Recurrence) (x : ℤ) → IsProper r → limit ≤ℤ pos 84005 → Contains (days_of limit r) x
    → OccursOn r x × (x ≤ℤ limit)
unfolding days_of
days_of_has limit r x proper high there =
    let found = days_from_has limit r 0 most_occurrences x there in
    let both = and_parts (repeats r.kind found.0) (int_le (nth_day r found.0) limit) found.2 in
    let up : nth_day r found.0 ≤ℤ limit = omega (arith, ints, both.1) in
    let first = first_day r found.0 proper.0 in
    let inside : IsDay (nth_day r found.0) = (first, omega (arith, signed_arith, up, high)) in
    ((found.0, (is_repeated r.kind found.0 both.0, inside), sym found.1), subst (λ y. y ≤ℤ limit) found.1 up)

days_of_kept :
    (limit : ℤ) (r : Recurrence) (x : ℤ) → IsProper r → OccursOn r x → x ≤ℤ limit → Contains (days_of limit r) x
unfolding days_of
days_of_kept limit r x proper (j, has, e) up =
    subst (λ y. Contains (days_from limit r 0 most_occurrences) y) (sym e)
    (days_from_kept limit r j 0 most_occurrences proper.0 has (subst (λ y. y ≤ℤ limit) e up) (omega arith)
    (few_occurrences r j proper.0 proper.1 has))

-- ---- the days of several

all_has :
    (limit : ℤ) (rs : List Recurrence) (x : ℤ) → All IsProper rs → limit ≤ℤ pos 84005
    → Contains (days_of_all limit rs) x → IsOnSome rs x × (x ≤ℤ limit)
all_has limit [] x proper high there = absurd (contains_none x there)
all_has limit (r ∷ rs) x proper high there =
    elim (with_days_has (days_of limit r) (days_of_all limit rs) x there) [
      | inl here ↦ let is = days_of_has limit r x (All-head IsProper r rs proper) high here in
          ((0, r, omega arith, refl, is.0), is.1)
      | inr later ↦ let is = all_has limit rs x (All-tail IsProper r rs proper) high later in
          let some = is.0 in ((suc some.0, some.1, omega (arith, some.2), some.3, some.4), is.1)
    ]

all_kept :
    (limit : ℤ) (rs : List Recurrence) (x : ℤ) → All IsProper rs → IsOnSome rs x → x ≤ℤ limit
    → Contains (days_of_all limit rs) x
all_kept limit [] x proper (k, q, lt, e, occurs) up = absurd (omega (arith, lt))
all_kept limit (r ∷ rs) x proper (zero, q, lt, e, occurs) up =
    with_days_kept (days_of limit r) (days_of_all limit rs) x
    (inl (days_of_kept limit r x (All-head IsProper r rs proper) (subst (λ p. OccursOn p x) (sym e) occurs) up))
all_kept limit (r ∷ rs) x proper (suc k, q, lt, e, occurs) up =
    with_days_kept (days_of limit r) (days_of_all limit rs) x
    (inr (all_kept limit rs x (All-tail IsProper r rs proper) (k, q, omega (arith, lt), e, occurs) up))

all_rises : (limit : ℤ) (rs : List Recurrence) → Rises (days_of_all limit rs)
all_rises limit [] = tt
all_rises limit (r ∷ rs) = with_days_rises (days_of limit r) (days_of_all limit rs) (all_rises limit rs)

-- ---- those that pass a test

filter_has_by :
    (test : ℤ → Bool) (d : ℤ) (rest ds : List ℤ) (x : ℤ) (b : Bool) → test d ≡ b
    → (Contains rest x → Contains ds x × (test x ≡ true)) → Contains (if b then d ∷ rest else rest) x
    → Contains (d ∷ ds) x × (test x ≡ true)
filter_has_by test d rest ds x true is old there =
    elim (contains_cases d rest x there) [
      | inl e ↦ (contains_first d ds x e, subst (λ y. test y ≡ true) e is)
      | inr later ↦ let found = old later in (contains_later d ds x found.0, found.1)
    ]
filter_has_by test d rest ds x false is old there =
    let found = old there in (contains_later d ds x found.0, found.1)

filter_has :
    (test : ℤ → Bool) (ds : List ℤ) (x : ℤ) → Contains (filter test ds) x → Contains ds x × (test x ≡ true)
filter_has test [] x there = absurd (contains_none x there)
filter_has test (d ∷ ds) x there =
    filter_has_by test d (filter test ds) ds x (test d) refl (filter_has test ds x) there

filter_kept_by :
    (test : ℤ → Bool) (d : ℤ) (rest ds : List ℤ) (x : ℤ) (b : Bool) → test d ≡ b → test x ≡ true
    → (Contains ds x → Contains rest x) → Contains (d ∷ ds) x → Contains (if b then d ∷ rest else rest) x
filter_kept_by test d rest ds x true is passes all there =
    elim (contains_cases d ds x there)
    [ inl e ↦ contains_first d rest x e | inr later ↦ contains_later d rest x (all later) ]
filter_kept_by test d rest ds x false is passes all there =
    elim (contains_cases d ds x there) [
      | inl e ↦ absurd (let fails = subst (λ y. test y ≡ false) e is in cc)
      | inr later ↦ all later
    ]

filter_kept :
    (test : ℤ → Bool) (ds : List ℤ) (x : ℤ) → test x ≡ true → Contains ds x → Contains (filter test ds) x
filter_kept test [] x passes there = there
filter_kept test (d ∷ ds) x passes there =
    filter_kept_by test d (filter test ds) ds x (test d) refl passes (filter_kept test ds x passes) there

filter_before : (test : ℤ → Bool) (e : ℤ) (ds : List ℤ) → IsBeforeAll e ds → IsBeforeAll e (filter test ds)
filter_before test e [] before = tt
filter_before test e (d ∷ ds) before =
    let rest = filter_before test e ds before.1 in
    elim (test d) as (λ (b : Bool). IsBeforeAll e (if b then d ∷ filter test ds else filter test ds))
    [ true ↦ (before.0, rest) | false ↦ rest ]

filter_rises : (test : ℤ → Bool) (ds : List ℤ) → Rises ds → Rises (filter test ds)
filter_rises test [] r = tt
filter_rises test (d ∷ ds) r =
    let rest = filter_rises test ds r.1 in
    elim (test d) as (λ (b : Bool). Rises (if b then d ∷ filter test ds else filter test ds))
    [ true ↦ (filter_before test d ds r.0, rest) | false ↦ rest ]

-- ---- the days that are still to be made

min_low : (x a b : ℤ) → x ≤ℤ int_min a b → (x ≤ℤ a) × (x ≤ℤ b)
min_low x a b le =
    by_lt_z b a
    (λ lt. let e : int_min a b ≡ b = grind (arith, ints, lt) in
    let low = subst (λ y. x ≤ℤ y) e le in (omega (arith, signed_arith, low, lt), low))
    (λ ge. let e : int_min a b ≡ a = grind (arith, ints, ge) in
    let low = subst (λ y. x ≤ℤ y) e le in (low, omega (arith, signed_arith, low, ge)))

min_high : (x a b : ℤ) → x ≤ℤ a → x ≤ℤ b → x ≤ℤ int_min a b
min_high x a b p q =
    by_lt_z b a
    (λ lt. let e : int_min a b ≡ b = grind (arith, ints, lt) in subst (λ y. x ≤ℤ y) (sym e) q)
    (λ ge. let e : int_min a b ≡ a = grind (arith, ints, ge) in subst (λ y. x ≤ℤ y) (sym e) p)

end_low : (end : End) (x : ℤ) → x ≤ℤ end_day end → IsUpTo end x × (x ≤ℤ pos 84005)
end_low Never x le = (tt, le)
end_low (Until last) x le = min_low x last (pos 84005) le
end_low (After count) x le = (tt, le)

end_high : (end : End) (x : ℤ) → IsUpTo end x → x ≤ℤ pos 84005 → x ≤ℤ end_day end
end_high Never x up le = le
end_high (Until last) x up le = min_high x last (pos 84005) up le
end_high (After count) x up le = le

last_day_bound : (t : Timing) (upto : ℤ) → last_day t upto ≤ℤ pos 84005
last_day_bound t upto =
    let limit = last_day t upto in
    let low = min_low limit (upto +ℤ pos t.advance) (end_day t.end) (omega (arith, signed_arith)) in
    (end_low t.end limit low.1).1

after_is : (last : Option ℤ) (x : ℤ) → is_after last x ≡ true → IsAfter last x
after_is None x e = tt
after_is (Some last) x e = omega (arith, ints, e)

is_later : (last : Option ℤ) (x : ℤ) → IsAfter last x → is_after last x ≡ true
is_later None x later = refl
is_later (Some last) x later = grind (arith, ints, later)

occurs_in_range : (rs : List Recurrence) (x : ℤ) → IsOnSome rs x → x ≤ℤ pos 84005
occurs_in_range rs x (k, r, lt, e, (j, has, is)) = subst (λ y. y ≤ℤ pos 84005) (sym is) has.1.1

-- The days that lie after the last one made.
abbrev open_days : Timing → ℤ → List ℤ
open_days t upto = filter (is_after t.last) (days_of_all (last_day t upto) t.recurrences)

open_has :
    (t : Timing) (upto x : ℤ) → All IsProper t.recurrences → Contains (open_days t upto) x → IsOpen t upto x
open_has t upto x proper there =
    let limit = last_day t upto in
    let both = filter_has (is_after t.last) (days_of_all limit t.recurrences) x there in
    let some = all_has limit t.recurrences x proper (last_day_bound t upto) both.0 in
    let low = min_low x (upto +ℤ pos t.advance) (end_day t.end) some.1 in
    ((some.0, (low.0, (end_low t.end x low.1).0)), after_is t.last x both.1)

open_kept :
    (t : Timing) (upto x : ℤ) → All IsProper t.recurrences → IsOpen t upto x → Contains (open_days t upto) x
open_kept t upto x proper is =
    let limit = last_day t upto in
    let planned = is.0 in
    let end = end_high t.end x planned.1.1 (occurs_in_range t.recurrences x planned.0) in
    let up = min_high x (upto +ℤ pos t.advance) (end_day t.end) planned.1.0 end in
    filter_kept (is_after t.last) (days_of_all limit t.recurrences) x (is_later t.last x is.1)
    (all_kept limit t.recurrences x proper planned.0 up)

-- ---- days that follow one another

after_later : (after : Option ℤ) (day later : ℤ) → IsAfter after day → day <ℤ later → IsAfter after later
after_later None day later h lt = tt
after_later (Some last) day later h lt = omega (arith, signed_arith, h, lt)

-- What the list of a set of days says: they follow one another, and none comes behind the last of them.
abbrev AllFollow : (ℤ → Type 0) → Option ℤ → List ℤ → Type 0
AllFollow set after days = (last : Option ℤ) × Follow set after days last × IsNext set last None

first_of :
    (d : ℤ) (ds : List ℤ) (x : ℤ) → IsBeforeAll d ds → Contains (d ∷ ds) x → d ≤ℤ x
first_of d ds x before there =
    elim (contains_cases d ds x there) [
      | inl e ↦ subst (λ y. d ≤ℤ y) e (omega (arith, signed_arith))
      | inr later ↦ let lt = later_than d ds x before later in omega (arith, signed_arith, lt)
    ]

behind_first : (d : ℤ) (ds : List ℤ) (x : ℤ) → Contains (d ∷ ds) x → d <ℤ x → Contains ds x
behind_first d ds x there lt =
    elim (contains_cases d ds x there) [
      | inl e ↦ absurd (omega (arith, signed_arith, lt, ap (λ (y : ℤ). y) e))
      | inr later ↦ later
    ]

all_follow :
    (set : ℤ → Type 0) (after : Option ℤ) (days : List ℤ) → Rises days
    → ((x : ℤ) → Contains days x → set x × IsAfter after x) → ((x : ℤ) → set x → IsAfter after x → Contains days x)
    → AllFollow set after days
all_follow set after [] r member whole = (after, refl, λ x is later. contains_none x (whole x is later))
all_follow set after (d ∷ ds) r member whole =
    let first = member d (contains_first d ds d refl) in
    let rest = all_follow set (Some d) ds r.1
    (λ x there. ((member x (contains_later d ds x there)).0, later_than d ds x r.0 there))
    (λ x is later. behind_first d ds x (whole x is (after_later after d x first.1 later)) later) in
    (rest.0, ((first.0, first.1, λ x is later. first_of d ds x r.0 (whole x is later)), rest.1), rest.2)

-- The first of them follow one another too.
follow_take :
    (set : ℤ → Type 0) (after last : Option ℤ) (days : List ℤ) (count : ℕ) → Follow set after days last
    → (end : Option ℤ) × Follow set after (take count days) end
follow_take set after last days zero follow = (after, refl)
follow_take set after last [] (suc count) follow = (after, refl)
follow_take set after last (d ∷ ds) (suc count) (next, rest) =
    let more = follow_take set (Some d) last ds count rest in (more.0, (next, more.1))

take_less : (days : List ℤ) (count : ℕ) (x : ℤ) → Contains (take count days) x → Contains days x
take_less days zero x there = absurd (contains_none x there)
take_less [] (suc count) x there = there
take_less (d ∷ ds) (suc count) x there =
    elim (contains_cases d (take count ds) x there)
    [ inl e ↦ contains_first d ds x e | inr later ↦ contains_later d ds x (take_less ds count x later) ]

-- a day that stands before so many stands among the first
take_more :
    (set : ℤ → Type 0) (after : Option ℤ) (days : List ℤ) (count : ℕ) (x : ℤ) → AllFollow set after days → set x
    → IsAfter after x → (HasAtLeast count (λ earlier. (set earlier × IsAfter after earlier) × (earlier <ℤ x)) → ⊥)
    → Contains (take count days) x
take_more set after days count x (last, follow, end) is later few =
    elim (cases_lt (length days) count) [
      | inl less ↦
          let all = whole_take days count (omega (arith, less)) in
          subst (λ ds. Contains ds x) (sym all) (follow_whole set after last days x follow end is later)
      | inr le ↦
          let first = follow_take set after last days count follow in
          let size = length-take count days in
          follow_kept set after first.0 (take count days) x count first.1 (inr (omega (arith, le, size))) is later few
    ]
  where
    whole_take : (days : List ℤ) (count : ℕ) → length days ≤ count → take count days ≡ days
    whole_take [] zero le = refl
    whole_take [] (suc count) le = refl
    whole_take (d ∷ ds) zero le = absurd (omega (arith, le))
    whole_take (d ∷ ds) (suc count) le = ap (λ (es : List ℤ). d ∷ es) (whole_take ds count (omega (arith, le)))

take_few :
    (set : ℤ → Type 0) (after : Option ℤ) (days : List ℤ) (count : ℕ) (x : ℤ) → AllFollow set after days
    → Contains (take count days) x
    → HasAtLeast count (λ earlier. (set earlier × IsAfter after earlier) × (earlier <ℤ x)) → ⊥
take_few set after days count x (last, follow, end) there (es, rises, all, size) =
    let first = follow_take set after last days count follow in
    let few = few_before set after first.0 (take count days) x es first.1 there rises all in
    let short = length-take count days in
    omega (arith, few, size, short)

-- ---- the days that are due

due_by :
    (t : Timing) (upto : ℤ) (end : End) (days : List ℤ) → AllFollow (IsPlanned t upto) t.last days → (x : ℤ)
    → (Contains (kept end t.made days) x → IsOpen t upto x × IsAllowed end t.made (IsOpen t upto) x)
    × (IsOpen t upto x × IsAllowed end t.made (IsOpen t upto) x → Contains (kept end t.made days) x)
due_by t upto Never days (last, follow, whole) x = (
  λ there. (follow_member (IsPlanned t upto) t.last last days x follow there, tt),
  λ due. follow_whole (IsPlanned t upto) t.last last days x follow whole due.0.0 due.0.1,
)
due_by t upto (Until until) days (last, follow, whole) x = (
  λ there. (follow_member (IsPlanned t upto) t.last last days x follow there, tt),
  λ due. follow_whole (IsPlanned t upto) t.last last days x follow whole due.0.0 due.0.1,
)
due_by t upto (After count) days (last, follow, whole) x = (
  λ there. (
    follow_member (IsPlanned t upto) t.last last days x follow (take_less days (count - t.made) x there),
    take_few (IsPlanned t upto) t.last days (count - t.made) x (last, follow, whole) there,
  ),
  λ due. take_more (IsPlanned t upto) t.last days (count - t.made) x (last, follow, whole) due.0.0 due.0.1 due.1,
)

kept_rises :
    (end : End) (made : ℕ) (set : ℤ → Type 0) (after : Option ℤ) (days : List ℤ) → Rises days
    → AllFollow set after days → Rises (kept end made days)
kept_rises Never made set after days r all = r
kept_rises (Until last) made set after days r all = r
kept_rises (After count) made set after days r (last, follow, whole) =
    let first = follow_take set after last days (count - made) follow in
    follow_rises set after first.0 (take (count - made) days) first.1

-- The list has exactly the days that are due.
pub due_listed : (t : Timing) (upto : ℤ) → All IsProper t.recurrences → Lists (IsDue t upto) (due_days t upto)
unfolding due_days
due_listed t upto proper =
    let days = open_days t upto in
    let rises = filter_rises (is_after t.last) (days_of_all (last_day t upto) t.recurrences)
    (all_rises (last_day t upto) t.recurrences) in
    let follow = all_follow (IsPlanned t upto) t.last days rises (λ x there. open_has t upto x proper there)
    (λ x is later. open_kept t upto x proper (is, later)) in
    record {
      rising = kept_rises t.end t.made (IsPlanned t upto) t.last days rises follow;
      each = λ x. due_by t upto t.end days follow x;
    }

-- ---- a set has one list

same_first :
    (d e : ℤ) (ds es : List ℤ) → IsBeforeAll d ds → IsBeforeAll e es → Contains (e ∷ es) d → Contains (d ∷ ds) e → d ≡ e
same_first d e ds es before after here there =
    let low = first_of e es d after here in
    let high = first_of d ds e before there in
    omega (arith, signed_arith, low, high)

pub same_days :
    (ds es : List ℤ) → Rises ds → Rises es → ((x : ℤ) → Contains ds x → Contains es x)
    → ((x : ℤ) → Contains es x → Contains ds x) → ds ≡ es
same_days [] [] r s to from = refl
same_days [] (e ∷ es) r s to from = absurd (contains_none e (from e (contains_first e es e refl)))
same_days (d ∷ ds) [] r s to from = absurd (contains_none d (to d (contains_first d ds d refl)))
same_days (d ∷ ds) (e ∷ es) r s to from =
    let first = same_first d e ds es r.0 s.0 (to d (contains_first d ds d refl))
    (from e (contains_first e es e refl)) in
    let before = subst (λ y. IsBeforeAll y es) (sym first) s.0 in
    let rest = same_days ds es r.1 s.1
    (λ x there. behind_first e es x (to x (contains_later d ds x there))
    (subst (λ y. y <ℤ x) first (later_than d ds x r.0 there)))
    (λ x there. behind_first d ds x (from x (contains_later e es x there)) (later_than d es x before there)) in
    ap (λ (y : ℤ). y ∷ ds) first ∙ ap (λ (ys : List ℤ). e ∷ ys) rest

pub listed_once :
    (set : ℤ → Type 0) (ds es : List ℤ) → Lists set ds → Lists set es → ds ≡ es
listed_once set ds es one other =
    same_days ds es one.rising other.rising (λ x there. (other.each x).1 ((one.each x).0 there))
    (λ x there. (one.each x).1 ((other.each x).0 there))

-- days that all stand in a list are no more than it has
no_more :
    (es ds : List ℤ) → Rises es → Rises ds → ((x : ℤ) → Contains es x → Contains ds x) → length es ≤ length ds
no_more [] ds s r to = omega arith
no_more (e ∷ es) [] s r to = absurd (contains_none e (to e (contains_first e es e refl)))
no_more (e ∷ es) (d ∷ ds) s r to =
    elim (contains_cases d ds e (to e (contains_first e es e refl))) [
      | inl same ↦
          let rest = no_more es ds s.1 r.1 (λ x there.
          behind_first d ds x (to x (contains_later e es x there))
          (subst (λ y. y <ℤ x) (sym same) (later_than e es x s.0 there))) in
          omega (arith, rest)
      | inr later ↦
          let less = later_than d ds e r.0 later in
          let rest = no_more (e ∷ es) ds s r.1 (λ x there.
          let low = first_of e es x s.0 there in
          behind_first d ds x (to x there) (omega (arith, signed_arith, less, low))) in
          omega (arith, rest)
    ]

pub listed_many :
    (set : ℤ → Type 0) (count : ℕ) (ds : List ℤ) → Lists set ds → HasAtLeast count set → count ≤ length ds
listed_many set count ds is (es, rises, all, size) =
    let most = no_more es ds rises is.rising
    (λ x (k, lt, e). (is.each x).1 (subst set e (all k x lt))) in
    omega (arith, most, size)
