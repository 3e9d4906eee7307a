-- What is asked of new schedules and of the days that are due, from place to place.
use Rattle.std.proofs.Common.{◌≡◌, ℕ, ◌+◌, ◌<◌, ◌≤◌, nat_lt, Bool, true, false, ℤ, All, List, [], ◌∷◌, ◌++◌}
use Rattle.std.proofs.Common.{drop, get_or, length, slice_get, Result, Some, None, refl, sym, ap, subst, ◌∙◌}
use Rattle.std.proofs.Common.{append_assoc, arith}
use Rattle.std.specs.Int.{IsInRange}
use Rattle.std.specs.List.{list_all}
use Rattle.std.proofs.lemmas.Bool.{and_parts}
use Rattle.std.proofs.lemmas.Bool.Decides.{nat_tests}
use Rattle.std.proofs.lemmas.List.Elements.{All-cons, All-nil}
use Rattle.book_commodity.specs.Day.{IsDay}
use Rattle.book_commodity.specs.Rules.{broken_where, first_broken}
use Rattle.book_commodity.specs.Table.{Rises, value_of}
use Rattle.book_commodity.specs.declared.counted.Counted.TheVariants.{Days}
use Rattle.book_commodity.proofs.ListLemmas.{from-item}
use Rattle.book_commodity.proofs.RuleLemmas.{first-here, first-past}
use Rattle.book_schedule.specs.DueDays.{HasAtLeast, IsDue, Lists}
use Rattle.book_schedule.specs.declared.recurrence.Recurrence.{Recurrence}
use Rattle.book_schedule.specs.declared.timing.Timing.{Timing}
use Rattle.book_sound.specs.ScheduleRules.{has_multiplier}
use Rattle.book_sound.specs.Soundness.{IsSoundBook}
use Rattle.book_sound.proofs.SplitFrames.{above_there}
use Rattle.book_undo.specs.Book.{Book}
use Rattle.book_undo.specs.declared.schedule.Schedule.{Schedule}
use Rattle.book_command.specs.declared.command.GivenSchedule.{GivenSchedule}
use Rattle.book_command.specs.declared.refusal.Refusal.{Refusal}
use Rattle.book_command.specs.declared.rule.Rule.{Rule}
use Rattle.book_command.specs.declared.rule.Rule.TheVariants.{Limit, RecurrenceShape}
use Rattle.book_step.specs.DueDays.{due_days}
use Rattle.book_step.specs.Outcome.{Broken, StepsTo}
use Rattle.book_step.specs.Schedules.{AreTimed, Run, StepOn, day_rule, day_rules, multiplier_rule, multipliers, runs_of}
use Rattle.book_step.specs.Schedules.{new_schedule, schedule_add, schedule_add_from, schedule_put, with_run}
use Rattle.book_step.specs.State.{State}
use Rattle.book_step.specs.declared.step.Step.{Step}
use Rattle.book_step.proofs.DueDayLemmas.{IsProper, due_listed, listed_many, listed_once}

-- ---- recurrences

pub multiplier-broken :
    (rs : List Recurrence) (place : ℕ) (r : Recurrence) (rule : Rule) → place < length rs → r ≡ get_or rs place r
    → first_broken (multipliers 0 rs) ≡ first_broken (multipliers place (drop place rs))
    → first_broken (multiplier_rule place r ∷ []) ≡ Some rule → first_broken (multipliers 0 rs) ≡ Some rule
multiplier-broken rs place r rule below is before here =
    before ∙ ap (λ (l : List Recurrence). first_broken (multipliers place l)) (from-item rs place r below is)
    ∙ first-here (multiplier_rule place r ∷ []) (multipliers (place + 1) (drop (place + 1) rs)) rule here

pub multiplier-kept :
    (rs : List Recurrence) (place : ℕ) (r : Recurrence) → place < length rs → r ≡ get_or rs place r
    → first_broken (multipliers 0 rs) ≡ first_broken (multipliers place (drop place rs))
    → first_broken (multiplier_rule place r ∷ []) ≡ None
    → first_broken (multipliers 0 rs) ≡ first_broken (multipliers (place + 1) (drop (place + 1) rs))
multiplier-kept rs place r below is before here =
    before ∙ ap (λ (l : List Recurrence). first_broken (multipliers place l)) (from-item rs place r below is)
    ∙ first-past (multiplier_rule place r ∷ []) (multipliers (place + 1) (drop (place + 1) rs)) here

-- ---- recurrences that step on

steps_on : (rs : List Recurrence) → list_all has_multiplier rs ≡ true → StepOn rs
steps_on [] all = All-nil (λ (r : Recurrence). IsInRange 1 10000 r.every)
steps_on (r ∷ more) all =
    let both = and_parts (has_multiplier r) (list_all has_multiplier more) all in
    let first = both.0 in
    All-cons (λ (r : Recurrence). IsInRange 1 10000 r.every) r more
    (grind (arith, nat_tests, first), grind (arith, nat_tests, first)) (steps_on more both.1)

timed_by :
    (es : List (ℕ × Schedule)) → Rises es
    → ((k : ℕ) (x : Schedule) → value_of k es ≡ Some x → list_all has_multiplier x.timing.recurrences ≡ true)
    → AreTimed es
timed_by [] r kept = All-nil (λ (e : ℕ × Schedule). StepOn e.1.timing.recurrences)
timed_by (e ∷ more) r kept =
    let first : value_of e.0 (e ∷ more) ≡ Some e.1 = grind (arith, nat_tests) in
    All-cons (λ (e : ℕ × Schedule). StepOn e.1.timing.recurrences) e more
    (steps_on e.1.timing.recurrences (kept e.0 e.1 first))
    (timed_by more r.1
    (λ k x found.
    let past = above_there e.0 k x more r.0 found in
    let later : value_of k (e ∷ more) ≡ Some x = grind (arith, nat_tests, past, found) in
    kept k x later))

-- The schedules of a sound book are timed.
pub sound_timed : (book : Book) → IsSoundBook book → AreTimed book.schedules
sound_timed book is =
    timed_by book.schedules is.schedules.rise (λ k x found. (is.schedules.keep.each k x found).0)

pub one_timed :
    (book : Book) (n : ℕ) (schedule : Schedule) → IsSoundBook book → value_of n book.schedules ≡ Some schedule
    → StepOn schedule.timing.recurrences
one_timed book n schedule is found =
    steps_on schedule.timing.recurrences (is.schedules.keep.each n schedule found).0

-- ---- the days of one schedule

pub days_proper :
    (rs : List Recurrence) → StepOn rs → All (λ r. IsDay r.start) rs → All IsProper rs
days_proper rs steps starts = λ k d lt. (starts k d lt, (steps k d lt).0)

-- the days that are found are those of the list,
pub days-found :
    (t : Timing) (upto : ℤ) (days : List ℤ) → StepOn t.recurrences → All (λ r. IsDay r.start) t.recurrences
    → Lists (IsDue t upto) days → length days ≤ 1000
    → (first_broken (day_rule upto t ∷ []) ≡ None) × (days ≡ due_days t upto)
days-found t upto days steps starts lists short =
    let proper = days_proper t.recurrences steps starts in
    let same = listed_once (IsDue t upto) days (due_days t upto) lists (due_listed t upto proper) in
    let size = ap (λ (ds : List ℤ). length ds) same in
    let few : nat_lt 1000 (length (due_days t upto)) ≡ false = grind (arith, nat_tests, short, size) in
    (ap (λ (b : Bool). first_broken (broken_where b (Limit Days 1000) ∷ [])) few, same)

-- and where there are too many, the list has so many
pub days-many :
    (t : Timing) (upto : ℤ) → StepOn t.recurrences → All (λ r. IsDay r.start) t.recurrences
    → HasAtLeast 1001 (IsDue t upto) → first_broken (day_rule upto t ∷ []) ≡ Some (Limit Days 1000)
days-many t upto steps starts many =
    let proper = days_proper t.recurrences steps starts in
    let most = listed_many (IsDue t upto) 1001 (due_days t upto) (due_listed t upto proper) many in
    let over : nat_lt 1000 (length (due_days t upto)) ≡ true = grind (arith, nat_tests, most) in
    ap (λ (b : Bool). first_broken (broken_where b (Limit Days 1000) ∷ [])) over

-- ---- the schedules with a day that is due

with_run-front :
    (entry : ℕ × Schedule) (days : List ℤ) (runs : List Run)
    → with_run entry days runs ≡ with_run entry days [] ++ runs
with_run-front entry [] runs = refl
with_run-front entry (day ∷ days) runs = refl

pub runs-more :
    (upto : ℤ) (es : List (ℕ × Schedule)) (i : ℕ) (e : ℕ × Schedule) (done new : List Run)
    → i < length es → e ≡ get_or es i e → done ++ runs_of upto (drop i es) ≡ runs_of upto es
    → new ≡ done ++ with_run e (due_days e.1.timing upto) []
    → new ++ runs_of upto (drop (i + 1) es) ≡ runs_of upto es
runs-more upto es i e done new below is before more =
    let one = with_run e (due_days e.1.timing upto) [] in
    let rest = runs_of upto (drop (i + 1) es) in
    ap (λ (runs : List Run). runs ++ rest) more
    ∙ append_assoc done one rest
    ∙ ap (λ (runs : List Run). done ++ runs)
    (sym (with_run-front e (due_days e.1.timing upto) rest)
    ∙ sym (ap (runs_of upto) (from-item es i e below is)))
    ∙ before

pub day-broken :
    (upto : ℤ) (es : List (ℕ × Schedule)) (i : ℕ) (e : ℕ × Schedule) (rule : Rule) → i < length es
    → e ≡ get_or es i e → first_broken (day_rules upto (drop i es)) ≡ first_broken (day_rules upto es)
    → first_broken (day_rule upto e.1.timing ∷ []) ≡ Some rule → first_broken (day_rules upto es) ≡ Some rule
day-broken upto es i e rule below is before here =
    sym before ∙ ap (λ (l : List (ℕ × Schedule)). first_broken (day_rules upto l)) (from-item es i e below is)
    ∙ first-here (day_rule upto e.1.timing ∷ []) (day_rules upto (drop (i + 1) es)) rule here

pub day-kept :
    (upto : ℤ) (es : List (ℕ × Schedule)) (i : ℕ) (e : ℕ × Schedule) → i < length es → e ≡ get_or es i e
    → first_broken (day_rules upto (drop i es)) ≡ first_broken (day_rules upto es)
    → first_broken (day_rule upto e.1.timing ∷ []) ≡ None
    → first_broken (day_rules upto (drop (i + 1) es)) ≡ first_broken (day_rules upto es)
day-kept upto es i e below is before here =
    sym (sym before ∙ ap (λ (l : List (ℕ × Schedule)). first_broken (day_rules upto l)) (from-item es i e below is)
    ∙ first-past (day_rule upto e.1.timing ∷ []) (day_rules upto (drop (i + 1) es)) here)

-- ---- a new schedule

pub none_first : {X : Type 0} (xs : List X) → slice_get xs 0 ≡ None → xs ≡ []
none_first [] e = refl
none_first (x ∷ xs) e = absurd cc

pub added_without :
    (state : State) (given : GivenSchedule) → slice_get given.recurrences 0 ≡ None
    → schedule_add state given ≡ Broken (RecurrenceShape 0)
added_without state given e = ap (schedule_add_from state given) (none_first given.recurrences e)

added_by :
    (state : State) (given : GivenSchedule) (first : Recurrence) (result : Result Step Refusal) (rs : List Recurrence)
    → slice_get rs 0 ≡ Some first → StepsTo state (schedule_put state (new_schedule first.start given)) result
    → StepsTo state (schedule_add_from state given rs) result
added_by state given first result [] e h = absurd cc
added_by state given first result (r ∷ more) e h =
    let same : first ≡ r = cc in
    subst (λ (q : Recurrence). StepsTo state (schedule_put state (new_schedule q.start given)) result) same h

pub added_with :
    (state : State) (given : GivenSchedule) (first : Recurrence) (result : Result Step Refusal)
    → slice_get given.recurrences 0 ≡ Some first
    → StepsTo state (schedule_put state (new_schedule first.start given)) result
    → StepsTo state (schedule_add state given) result
added_with state given first result e h = added_by state given first result given.recurrences e h
