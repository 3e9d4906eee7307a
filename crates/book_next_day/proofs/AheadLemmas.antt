-- The day that is due where one more occurrence is allowed is the first one for which a schedule will post.
use Rattle.std.proofs.Common.{Option, Some, None, ◌≡◌, ℕ, zero, suc, ◌-◌, ◌<◌, ◌≤◌, List, [], ◌∷◌, refl, sym, subst, arith}
use Rattle.std.proofs.Common.{inl, inr, ℤ, pos, negsuc, ◌+ℤ◌, ◌<ℤ◌, ◌≤ℤ◌}
use Rattle.std.specs.List.{Contains}
use Rattle.std.proofs.lemmas.Bool.{cases_lt}
use Rattle.std.proofs.lemmas.Int.{by_lt_z}
use Rattle.std.proofs.lemmas.List.Elements.{All-nil, All-cons, All-head, All-tail}
use Rattle.jiff_core.proofs.SignedLemmas.{signed_arith}
use Rattle.book_commodity.specs.Day.{IsDay}
use Rattle.book_schedule.specs.DueDays.{HasAtLeast, IsAllowed, IsDue, IsOnSome, IsOpen, IsUpTo, Lists}
use Rattle.book_schedule.specs.Recurrence.{OccursOn}
use Rattle.book_schedule.specs.declared.recurrence.Recurrence.{Recurrence}
use Rattle.book_schedule.specs.declared.timing.End.{End}
use Rattle.book_schedule.specs.declared.timing.End.TheVariants.{Never, Until, After}
use Rattle.book_schedule.specs.declared.timing.Timing.{Timing}
use Rattle.book_next_day.specs.Ahead.{HasMore, IsLeft, IsNextDay, first_of, last_asked, with_one}

-- ---- the days that are left are those that are open
occurs_in_range : (r : Recurrence) (day : ℤ) → OccursOn r day → IsDay day
occurs_in_range r day occurs = subst IsDay (sym occurs.2) occurs.1.1

in_range : (rs : List Recurrence) (day : ℤ) → IsOnSome rs day → IsDay day
in_range rs day on = occurs_in_range on.1 day on.4

asked_up_to : (end : End) (day : ℤ) → IsUpTo end day → IsDay day → day ≤ℤ (last_asked end +ℤ pos 0)
asked_up_to Never day up range = omega (arith, signed_arith, range.1)
asked_up_to (Until last) day up range = omega (arith, signed_arith, up)
asked_up_to (After count) day up range = omega (arith, signed_arith, range.1)

up_to_asked : (end : End) (day : ℤ) → day ≤ℤ (last_asked end +ℤ pos 0) → IsUpTo end day
up_to_asked Never day up = tt
up_to_asked (Until last) day up = omega (arith, signed_arith, up)
up_to_asked (After count) day up = tt

open_of : (t : Timing) (day : ℤ) → IsLeft t day → IsOpen (with_one t) (last_asked t.end) day
open_of t day left =
    let range = in_range t.recurrences day left.0 in
    ((left.0, (asked_up_to t.end day left.1 range, tt)), left.2)

left_of : (t : Timing) (day : ℤ) → IsOpen (with_one t) (last_asked t.end) day → IsLeft t day
left_of t day opened = (opened.0.0, up_to_asked t.end day opened.0.1.0, opened.1)

not_less : (m n : ℕ) → (m < n → ⊥) → n ≤ m
not_less m n never = elim (cases_lt m n) [ inl less ↦ absurd (never less) | inr at_least ↦ at_least ]

-- ---- sets of one day and more
one_of : (set : ℤ → Type 0) (day : ℤ) → set day → HasAtLeast 1 set
one_of set day is = (day ∷ [], (tt, tt), All-cons set day [] is (All-nil set), refl)

some_of : (set : ℤ → Type 0) (count : ℕ) → 0 < count → HasAtLeast count set → (day : ℤ) × set day
some_of set count more ([], rises, all, long) = absurd (omega (arith, more, long))
some_of set count more (day ∷ days, rises, all, long) = (day, All-head set day days all)

-- a day that is due has none that is left before it
none_before :
    (t : Timing) (day earlier : ℤ) → IsDue (with_one t) (last_asked t.end) day → IsLeft t earlier → earlier <ℤ day → ⊥
none_before t day earlier due left before =
    due.1 (one_of (λ e. IsOpen (with_one t) (last_asked t.end) e × (e <ℤ day)) earlier (open_of t earlier left, before))

-- ---- the first one
allowed_by :
    (end : End) (made : ℕ) (t : Timing) (day : ℤ) → HasMore end made
    → ((earlier : ℤ) → IsLeft t earlier → earlier <ℤ day → ⊥) → IsAllowed end made (IsLeft t) day
allowed_by Never made t day more none = tt
allowed_by (Until last) made t day more none = tt
allowed_by (After count) made t day more none = λ many.
    let some = some_of (λ earlier. IsLeft t earlier × (earlier <ℤ day)) (count - made) (omega (arith, more)) many in
    none some.0 some.1.0 some.1.1

pub next_is :
    (t : Timing) (next : ℤ) (days : List ℤ) → HasMore t.end t.made
    → Lists (IsDue (with_one t) (last_asked t.end)) (next ∷ days) → IsNextDay t (Some next)
next_is t next days more lists =
    let due = (lists.each next).0 (0, omega arith, refl) in
    let none = λ (earlier : ℤ). none_before t next earlier due in (
      (left_of t next due.0, allowed_by t.end t.made t next more none),
      λ day will. by_lt_z day next (λ before. absurd (none day will.0 before)) (λ later. later),
    )

-- ---- where none is due, none is left
none_below :
    (t : Timing) → ((day : ℤ) → IsDue (with_one t) (last_asked t.end) day → ⊥) → (n : ℕ) (day : ℤ) → IsLeft t day
    → day <ℤ (negsuc 25566 +ℤ pos n) → ⊥
none_below t none zero day left low =
    let range = in_range t.recurrences day left.0 in omega (arith, signed_arith, range.0, low)
none_below t none (suc n) day left low =
    none day (
      open_of t day left,
      λ many.
          let some = some_of (λ e. IsOpen (with_one t) (last_asked t.end) e × (e <ℤ day)) 1 (omega arith) many in
          let earlier = some.0 in
          let before : earlier <ℤ day = some.1.1 in
          none_below t none n earlier (left_of t earlier some.1.0) (omega (arith, signed_arith, before, low)),
    )

pub none_is : (t : Timing) → Lists (IsDue (with_one t) (last_asked t.end)) [] → IsNextDay t None
none_is t lists = λ day will.
    let none = λ (x : ℤ) (due : IsDue (with_one t) (last_asked t.end) x). nowhere x ((lists.each x).1 due) in
    let range = in_range t.recurrences day will.0.0 in
    none_below t none 109573 day will.0 (omega (arith, signed_arith, range.1))
  where
    nowhere : (x : ℤ) → Contains [] x → ⊥
    nowhere x (k, lt, is) = omega arith

-- what is found is the first day, or that there is none
pub first_is :
    (t one : Timing) (upto : ℤ) (days : List ℤ) (first : Option ℤ) → HasMore t.end t.made → one ≡ with_one t
    → upto ≡ last_asked t.end → Lists (IsDue one upto) days → first ≡ first_of days → IsNextDay t first
first_is t one upto days first more is asked lists found =
    let here = subst (λ (it : Timing). Lists (IsDue it (last_asked t.end)) days) is
    (subst (λ (day : ℤ). Lists (IsDue one day) days) asked lists) in
    subst (IsNextDay t) (sym found) (by_days days here)
  where
    by_days : (ds : List ℤ) → Lists (IsDue (with_one t) (last_asked t.end)) ds → IsNextDay t (first_of ds)
    by_days [] it = none_is t it
    by_days (d ∷ ds) it = next_is t d ds more it

-- a schedule that allows no more has none
ended_by :
    (t : Timing) (end : End) (made : ℕ) (day : ℤ) → (HasMore end made → ⊥) → IsAllowed end made (IsLeft t) day → ⊥
ended_by t Never made day ended may = ended tt
ended_by t (Until last) made day ended may = ended tt
ended_by t (After count) made day ended may =
    let set = λ (earlier : ℤ). IsLeft t earlier × (earlier <ℤ day) in
    may ([], tt, All-nil set, none_left count made ended)
  where
    none_left : (count made : ℕ) → (made < count → ⊥) → 0 ≡ count - made
    none_left count made ended = omega (arith, not_less made count ended)

pub ended_is : (t : Timing) → (HasMore t.end t.made → ⊥) → IsNextDay t None
ended_is t ended = λ day will. ended_by t t.end t.made day ended will.1

-- no two days are due
pub never_many : (t : Timing) → HasAtLeast 1001 (IsDue (with_one t) (last_asked t.end)) → ⊥
never_many t ([], rises, all, long) = omega (arith, long)
never_many t (day ∷ [], rises, all, long) = omega (arith, long)
never_many t (day ∷ next ∷ days, rises, all, long) =
    let due = IsDue (with_one t) (last_asked t.end) in
    let first = All-head due day (next ∷ days) all in
    let second = All-head due next days (All-tail due day (next ∷ days) all) in
    none_before t next day second (left_of t day first.0) rises.0.0

pub no_two :
    (t one : Timing) (upto : ℤ) → one ≡ with_one t → upto ≡ last_asked t.end → HasAtLeast 1001 (IsDue one upto) → ⊥
no_two t one upto is asked many =
    never_many t (subst (λ (it : Timing). HasAtLeast 1001 (IsDue it (last_asked t.end))) is
    (subst (λ (day : ℤ). HasAtLeast 1001 (IsDue one day)) asked many))
