-- A run of schedules from place to place: what is counted, and what is made so far.
use Rattle.std.proofs.Common.{◌≡◌, ℕ, zero, suc, ◌+◌, ◌*◌, ◌<◌, ◌≤◌, ◌-◌, ℤ, List, [], ◌∷◌}
use Rattle.std.proofs.Common.{◌++◌, drop, get_or, length, map, slice_get, Option, Some, None, refl, sym, ap, subst, ◌∙◌}
use Rattle.std.proofs.Common.{append_assoc, ◌≢◌, Result, Ok, Err, arith}
use Rattle.std.proofs.lemmas.Bool.Decides.{nat_tests}
use Rattle.std.proofs.lemmas.List.{append-nil, drop_all, map-append}
use Rattle.book_commodity.specs.Rules.{first_broken}
use Rattle.book_commodity.specs.Table.{Rises, value_of}
use Rattle.book_commodity.specs.declared.kind.Kind.TheVariants as kind
use Rattle.book_commodity.proofs.ListLemmas.{from-item}
use Rattle.book_commodity.proofs.RuleLemmas.{first-here, first-past, kept_of, not-broken}
use Rattle.book_splits.specs.Balance.{splits_of}
use Rattle.book_splits.specs.declared.split.Split.{Split}
use Rattle.book_splits.specs.declared.transaction.Txn.{Txn}
use Rattle.book_undo.specs.Book.{Book}
use Rattle.book_undo.specs.declared.edit.Edit.{Edit, Put}
use Rattle.book_undo.specs.declared.schedule.Schedule.{Schedule}
use Rattle.book_undo.specs.declared.thing.Thing.TheVariants as thing
use Rattle.book_step.specs.ScheduleRuns.{HasMade, MadeBelow, drawn_by, drawn_of, drawn_on, last_day_of, made_by}
use Rattle.book_step.specs.ScheduleRuns.{made_on}
use Rattle.book_step.specs.ScheduleRuns.{made_split, made_splits, made_transaction, ran, ran_by, schedule_edits}
use Rattle.book_step.specs.ScheduleRuns.{splits_by}
use Rattle.book_step.specs.ScheduleRuns.{transaction_edits, transactions_by}
use Rattle.book_step.specs.ScheduleRuns.{AreRuns, asked, asked_rules, book_ran, schedule_run, schedule_run_of}
use Rattle.book_step.specs.ScheduleRuns.{too_many_made}
use Rattle.book_step.specs.ScheduleRuns.{too_many_splits_made}
use Rattle.book_step.specs.DueDays.{due_days}
use Rattle.book_step.specs.Outcome.{Broken, StepsTo, changing, leaving}
use Rattle.book_step.specs.Schedules.{Finds, Run, day_rule, day_rules, runs_of, with_run}
use Rattle.book_step.specs.Soundness.{IsSound}
use Rattle.book_step.specs.State.{State}
use Rattle.book_step.specs.declared.schedule_runs.Making.{Making}
use Rattle.book_step.specs.declared.step.Step.{Step}
use Rattle.book_command.specs.declared.answer.Answer.TheVariants as answer
use Rattle.book_command.specs.declared.refusal.Refusal.{Refusal}
use Rattle.book_command.specs.declared.refusal.Refusal.TheVariants as refusal
use Rattle.book_command.specs.declared.rule.Rule.{Rule}
use Rattle.book_command.specs.declared.rule.Rule.TheVariants.{Unknown}
use Rattle.book_step.proofs.RunLemmas.{asked_part, runs_are, runs_rise}
use Rattle.book_step.proofs.OutcomeLemmas.{broken-changing, broken-leaving, past-changing, past-leaving}

-- ---- what is counted

pub transactions-more :
    (runs : List Run) (i : ℕ) (run : Run) → i < length runs → run ≡ get_or runs i run
    → transactions_by (drop i runs) ≡ length run.days + transactions_by (drop (i + 1) runs)
transactions-more runs i run below is = ap transactions_by (from-item runs i run below is)

pub splits-more :
    (runs : List Run) (i : ℕ) (run : Run) → i < length runs → run ≡ get_or runs i run
    → splits_by (drop i runs)
    ≡ length run.days * length run.schedule.template.splits + splits_by (drop (i + 1) runs)
splits-more runs i run below is = ap splits_by (from-item runs i run below is)

pub transactions-end : (runs : List Run) (i : ℕ) → length runs ≤ i → transactions_by (drop i runs) ≡ 0
transactions-end runs i past = ap transactions_by (drop_all i runs past)

pub splits-end : (runs : List Run) (i : ℕ) → length runs ≤ i → splits_by (drop i runs) ≡ 0
splits-end runs i past = ap splits_by (drop_all i runs past)

times_more : (n k : ℕ) → n * (1 + k) ≡ n + n * k
times_more zero k = omega arith
times_more (suc n) k = omega (arith, times_more n k)

-- each transaction draws a number, and so does each of its splits
pub drawn-counts : (runs : List Run) → drawn_by runs ≡ transactions_by runs + splits_by runs
drawn-counts [] = refl
drawn-counts (run ∷ more) =
    let here = times_more (length run.days) (length run.schedule.template.splits) in
    let rest = drawn-counts more in
    omega (arith, here, rest)

-- ---- the splits of a transaction

pub splits-made :
    (number : ℕ) (splits : List Split) (i : ℕ) (split : Split) (done new : List Split) (next : ℕ)
    → i < length splits → split ≡ get_or splits i split
    → done ++ made_splits next (drop i splits) ≡ made_splits number splits
    → new ≡ done ++ made_split next split ∷ []
    → new ++ made_splits (next + 1) (drop (i + 1) splits) ≡ made_splits number splits
splits-made number splits i split done new next below is before more =
    let rest = made_splits (next + 1) (drop (i + 1) splits) in
    ap (λ (made : List Split). made ++ rest) more
    ∙ append_assoc done (made_split next split ∷ []) rest
    ∙ ap (λ (made : List Split). done ++ made)
    (sym (ap (made_splits next) (from-item splits i split below is)))
    ∙ before

pub splits-whole :
    (number : ℕ) (splits : List Split) (i : ℕ) (done : List Split) (next : ℕ) → length splits ≤ i
    → done ++ made_splits next (drop i splits) ≡ made_splits number splits → done ≡ made_splits number splits
splits-whole number splits i done next past before =
    sym (append-nil done)
    ∙ ap (λ (ls : List Split). done ++ made_splits next ls) (sym (drop_all i splits past))
    ∙ before

-- ---- the edits of the schedules

pub edits-more :
    (runs : List Run) (i : ℕ) (run : Run) (start done new : List Edit) → i < length runs
    → run ≡ get_or runs i run
    → done ++ schedule_edits (ran_by (drop i runs)) ≡ start ++ schedule_edits (ran_by runs)
    → new ≡ done ++ Put run.number (thing.Schedule (ran run)) ∷ []
    → new ++ schedule_edits (ran_by (drop (i + 1) runs)) ≡ start ++ schedule_edits (ran_by runs)
edits-more runs i run start done new below is before more =
    let rest = schedule_edits (ran_by (drop (i + 1) runs)) in
    ap (λ (edits : List Edit). edits ++ rest) more
    ∙ append_assoc done (Put run.number (thing.Schedule (ran run)) ∷ []) rest
    ∙ ap (λ (edits : List Edit). done ++ edits)
    (sym (ap (λ (rs : List Run). schedule_edits (ran_by rs)) (from-item runs i run below is)))
    ∙ before

pub edits-whole :
    (runs : List Run) (i : ℕ) (start done : List Edit) → length runs ≤ i
    → done ++ schedule_edits (ran_by (drop i runs)) ≡ start ++ schedule_edits (ran_by runs)
    → done ≡ start ++ schedule_edits (ran_by runs)
edits-whole runs i start done past before =
    sym (append-nil done)
    ∙ ap (λ (rs : List Run). done ++ schedule_edits (ran_by rs)) (sym (drop_all i runs past))
    ∙ before

pub made-below-here :
    (most : ℕ) (runs : List Run) (i : ℕ) (run : Run) → i < length runs → run ≡ get_or runs i run
    → MadeBelow most (drop i runs)
    → (run.schedule.timing.made + length run.days < most) × MadeBelow most (drop (i + 1) runs)
made-below-here most runs i run below is all = subst (MadeBelow most) (from-item runs i run below is) all

-- ---- the last day

pub last-is :
    (given : Option ℤ) (days : List ℤ) (day : ℤ) → slice_get days (length days - 1) ≡ Some day
    → last_day_of given days ≡ Some day
last-is given [] day e = absurd cc
last-is given (d ∷ []) day e = e
last-is given (d ∷ e ∷ days) day is =
    let place : length (d ∷ e ∷ days) - 1 ≡ suc (length (e ∷ days) - 1) = omega arith in
    last-is (Some d) (e ∷ days) day (sym (ap (slice_get (d ∷ e ∷ days)) place) ∙ is)

pub last-none :
    (given : Option ℤ) (days : List ℤ) → slice_get days (length days - 1) ≡ None → last_day_of given days ≡ given
last-none given [] e = refl
last-none given (d ∷ days) e = absurd (there d days e)
  where
    there : (d : ℤ) (days : List ℤ) → slice_get (d ∷ days) (length (d ∷ days) - 1) ≡ None → ⊥
    there d [] e = absurd cc
    there d (x ∷ days) e =
        let place : length (d ∷ x ∷ days) - 1 ≡ suc (length (x ∷ days) - 1) = omega arith in
        there x days (sym (ap (slice_get (d ∷ x ∷ days)) place) ∙ e)

-- ---- what is made so far

made-nothing : (now : Making) → HasMade now [] now.next now
made-nothing now = (sym (append-nil now.edits), sym (append-nil now.numbers), refl)

made-then :
    (old mid new : Making) (xs ys : List (ℕ × Txn)) (next later : ℕ) → HasMade old xs next mid
    → HasMade mid ys later new → HasMade old (xs ++ ys) later new
made-then old mid new xs ys next later one two = (
  two.0 ∙ ap (λ (edits : List Edit). edits ++ transaction_edits ys) one.0
      ∙ append_assoc old.edits (transaction_edits xs) (transaction_edits ys)
      ∙ ap (λ (edits : List Edit). old.edits ++ edits)
      (sym (map-append (λ (e : ℕ × Txn). Put e.0 (thing.Txn e.1)) xs ys)),
  two.1 ∙ ap (λ (numbers : List ℕ). numbers ++ map (λ (e : ℕ × Txn). e.0) ys) one.1
      ∙ append_assoc old.numbers (map (λ (e : ℕ × Txn). e.0) xs) (map (λ (e : ℕ × Txn). e.0) ys)
      ∙ ap (λ (numbers : List ℕ). old.numbers ++ numbers) (sym (map-append (λ (e : ℕ × Txn). e.0) xs ys)),
  two.2,
)

-- Up to a place of a schedule's days, these transactions are made, and those of the days from there on are left.
pub record AreMadeOn (start : Making) (run : Run) (i : ℕ) (now : Making) : Type 0 where
  pub done : List (ℕ × Txn)
  pub has : HasMade start done now.next now
  pub left : done ++ made_on now.next run.schedule.template (drop i run.days)
      ≡ made_on start.next run.schedule.template run.days
  pub next : now.next + length (drop i run.days) * drawn_of run.schedule.template ≡ start.next + drawn_on run

pub made_on-start : (start : Making) (run : Run) → AreMadeOn start run 0 start
made_on-start start run = record { done = []; has = made-nothing start; left = refl; next = refl }

sized :
    (days : List ℤ) (i k : ℕ) (day : ℤ) → drop i days ≡ day ∷ drop (i + 1) days
    → length (drop i days) * k ≡ k + length (drop (i + 1) days) * k
sized days i k day item =
    ap (λ (l : List ℤ). length l * k) item ∙ one_more (length (drop (i + 1) days)) k
  where
    one_more : (n k : ℕ) → suc n * k ≡ k + n * k
    one_more n k = omega arith

made_on-more :
    (start : Making) (run : Run) (i : ℕ) (day : ℤ) (now new : Making) → i < length run.days
    → day ≡ get_or run.days i day → AreMadeOn start run i now
    → HasMade now ((now.next, made_transaction now.next day run.schedule.template) ∷ [])
    (now.next + drawn_of run.schedule.template) new
    → AreMadeOn start run (i + 1) new
made_on-more start run i day now new below is so more =
    let template = run.schedule.template in
    let one = (now.next, made_transaction now.next day template) ∷ [] in
    let item = from-item run.days i day below is in
    let rest = made_on (now.next + drawn_of template) template (drop (i + 1) run.days) in
    let product = sized run.days i (drawn_of template) day item in
    let before = so.next in
    let moved = more.2 in
    record {
      done = so.done ++ one;
      has = subst (λ (n : ℕ). HasMade start (so.done ++ one) n new) (sym moved)
          (made-then start now new so.done one now.next (now.next + drawn_of template) so.has more);
      left = ap (λ (n : ℕ). (so.done ++ one) ++ made_on n template (drop (i + 1) run.days)) moved
          ∙ append_assoc so.done one rest
          ∙ ap (λ (made : List (ℕ × Txn)). so.done ++ made) (sym (ap (made_on now.next template) item))
          ∙ so.left;
      next = ap (λ (n : ℕ). n + length (drop (i + 1) run.days) * drawn_of template) moved
          ∙ omega (arith, product, before);
    }

pub made_on-next :
    (start : Making) (shown run : Run) (items : List ℤ) (i : ℕ) (day : ℤ) (now new : Making) → shown ≡ run
    → items ≡ shown.days → i < length items → day ≡ get_or items i day → AreMadeOn start run i now
    → HasMade now ((now.next, made_transaction now.next day shown.schedule.template) ∷ [])
    (now.next + drawn_of shown.schedule.template) new
    → AreMadeOn start run (i + 1) new
made_on-next start shown run items i day now new view same below is so more =
    let all = same ∙ ap (λ (r : Run). r.days) view in
    made_on-more start run i day now new (subst (λ (ds : List ℤ). i < length ds) all below)
    (subst (λ (ds : List ℤ). day ≡ get_or ds i day) all is) so
    (subst (λ (r : Run). HasMade now ((now.next, made_transaction now.next day r.schedule.template) ∷ [])
    (now.next + drawn_of r.schedule.template) new) view more)

nothing : (k : ℕ) → 0 * k ≡ 0
nothing k = omega arith

pub made_on-end :
    (start : Making) (run : Run) (i : ℕ) (now : Making) → length run.days ≤ i → AreMadeOn start run i now
    → HasMade start (made_on start.next run.schedule.template run.days) (start.next + drawn_on run) now
made_on-end start run i now past so =
    let template = run.schedule.template in
    let none = drop_all i run.days past in
    let left = sym (append-nil so.done)
    ∙ ap (λ (days : List ℤ). so.done ++ made_on now.next template days) (sym none) ∙ so.left in
    let size : length (drop i run.days) * drawn_of template ≡ 0 =
    ap (λ (days : List ℤ). length days * drawn_of template) none ∙ nothing (drawn_of template) in
    let before = so.next in
    let last : now.next ≡ start.next + drawn_on run = omega (arith, size, before) in
    subst (λ (n : ℕ). HasMade start (made_on start.next template run.days) n now) last
    (subst (λ (made : List (ℕ × Txn)). HasMade start made now.next now) left so.has)

-- The same of the schedules.
pub record AreMadeBy (start : Making) (runs : List Run) (i : ℕ) (now : Making) : Type 0 where
  pub done : List (ℕ × Txn)
  pub has : HasMade start done now.next now
  pub left : done ++ made_by now.next (drop i runs) ≡ made_by start.next runs
  pub next : now.next + drawn_by (drop i runs) ≡ start.next + drawn_by runs

pub made_by-start : (start : Making) (runs : List Run) → AreMadeBy start runs 0 start
made_by-start start runs = record { done = []; has = made-nothing start; left = refl; next = refl }

pub made_by-more :
    (start : Making) (runs : List Run) (i : ℕ) (run : Run) (now new : Making) → i < length runs
    → run ≡ get_or runs i run → AreMadeBy start runs i now
    → HasMade now (made_on now.next run.schedule.template run.days) (now.next + drawn_on run) new
    → AreMadeBy start runs (i + 1) new
made_by-more start runs i run now new below is so more =
    let made = made_on now.next run.schedule.template run.days in
    let item = from-item runs i run below is in
    let rest = made_by (now.next + drawn_on run) (drop (i + 1) runs) in
    let size : drawn_by (drop i runs) ≡ drawn_on run + drawn_by (drop (i + 1) runs) = ap drawn_by item in
    let before = so.next in
    let moved = more.2 in
    record {
      done = so.done ++ made;
      has = subst (λ (n : ℕ). HasMade start (so.done ++ made) n new) (sym moved)
          (made-then start now new so.done made now.next (now.next + drawn_on run) so.has more);
      left = ap (λ (n : ℕ). (so.done ++ made) ++ made_by n (drop (i + 1) runs)) moved
          ∙ append_assoc so.done made rest
          ∙ ap (λ (all : List (ℕ × Txn)). so.done ++ all) (sym (ap (made_by now.next) item))
          ∙ so.left;
      next = ap (λ (n : ℕ). n + drawn_by (drop (i + 1) runs)) moved ∙ omega (arith, size, before);
    }

pub made_by-end :
    (start : Making) (runs : List Run) (i : ℕ) (now : Making) → length runs ≤ i → AreMadeBy start runs i now
    → HasMade start (made_by start.next runs) (start.next + drawn_by runs) now
made_by-end start runs i now past so =
    let none = drop_all i runs past in
    let left = sym (append-nil so.done)
    ∙ ap (λ (rs : List Run). so.done ++ made_by now.next rs) (sym none) ∙ so.left in
    let next : now.next + 0 ≡ start.next + drawn_by runs =
    ap (λ (rs : List Run). now.next + drawn_by rs) (sym none) ∙ so.next in
    let last : now.next ≡ start.next + drawn_by runs = omega (arith, next) in
    subst (λ (n : ℕ). HasMade start (made_by start.next runs) n now) last
    (subst (λ (made : List (ℕ × Txn)). HasMade start made now.next now) left so.has)

-- one schedule more doesn't draw more than all of them
pub made_by-room :
    (start : Making) (runs : List Run) (i : ℕ) (run : Run) (now : Making) → i < length runs
    → run ≡ get_or runs i run → AreMadeBy start runs i now → now.next + drawn_on run ≤ start.next + drawn_by runs
made_by-room start runs i run now below is so =
    let size : drawn_by (drop i runs) ≡ drawn_on run + drawn_by (drop (i + 1) runs) =
    ap drawn_by (from-item runs i run below is) in
    let before = so.next in
    omega (arith, size, before)

-- ---- the schedules that are asked for

pub asked-all :
    (state : State) (upto : ℤ) (only : Option ℕ) (result : Result (List Run) Refusal) → only ≡ None
    → Finds (day_rules upto state.book.schedules) (λ runs. runs ≡ runs_of upto state.book.schedules) result
    → Finds (asked_rules state upto only) (λ runs. runs ≡ runs_of upto (asked only state.book.schedules)) result
asked-all state upto only (Ok runs) e h = rw e h
asked-all state upto only (Err (refusal.Broken rule)) e h = rw e h
asked-all state upto only (Err refusal.Keeper) e h = absurd h
asked-all state upto only (Err refusal.OutOfMemory) e h = tt

pub asked-unknown :
    (state : State) (upto : ℤ) (only : Option ℕ) (n : ℕ) → only ≡ Some n → value_of n state.book.schedules ≡ None
    → first_broken (asked_rules state upto only) ≡ Some (Unknown kind.Schedule n)
asked-unknown state upto only n e none = rw (e, none) refl

pub asked-one :
    (state : State) (upto : ℤ) (only : Option ℕ) (n : ℕ) (schedule : Schedule)
    → only ≡ Some n → value_of n state.book.schedules ≡ Some schedule
    → first_broken (day_rule upto schedule.timing ∷ []) ≡ None
    → (first_broken (asked_rules state upto only) ≡ None)
    × (with_run (n, schedule) (due_days schedule.timing upto) []
    ≡ runs_of upto (asked only state.book.schedules))
asked-one state upto only n schedule e there unbroken = rw (e, there) (unbroken, refl)

pub asked-broken :
    (state : State) (upto : ℤ) (only : Option ℕ) (n : ℕ) (schedule : Schedule) (rule : Rule)
    → only ≡ Some n → value_of n state.book.schedules ≡ Some schedule
    → first_broken (day_rule upto schedule.timing ∷ []) ≡ Some rule
    → first_broken (asked_rules state upto only) ≡ Some rule
asked-broken state upto only n schedule rule e there broken = rw (e, there) broken

-- ---- the run

-- What a run of schedules comes to that break no rule before.
pub run-broken :
    (state : State) (rules : List (Option Rule)) (runs : List Run) (rule : Rule) → runs ≢ []
    → first_broken rules ≡ None
    → first_broken (too_many_made state.book runs ∷ too_many_splits_made state.book runs ∷ []) ≡ Some rule
    → schedule_run_of state rules runs ≡ Broken rule
run-broken state rules [] rule some unbroken broken = absurd (some refl)
run-broken state rules (run ∷ more) rule some unbroken broken =
    let runs = run ∷ more in
    let counts = too_many_made state.book runs ∷ too_many_splits_made state.book runs ∷ [] in
    broken-changing state (rules ++ counts) (book_ran state.book state.next runs) (drawn_by runs)
    (answer.ScheduleRun (map (λ (entry : ℕ × Txn). entry.0) (made_by state.next runs))) rule
    (first-past rules counts unbroken ∙ broken)

pub run-changed :
    (state : State) (rules : List (Option Rule)) (runs : List Run) (drawn : ℕ) (book : Book) (numbers : List ℕ)
    (result : Result Step Refusal) → runs ≢ []
    → first_broken rules ≡ None
    → first_broken (too_many_made state.book runs ∷ too_many_splits_made state.book runs ∷ []) ≡ None
    → drawn ≡ drawn_by runs → book ≡ book_ran state.book state.next runs
    → numbers ≡ map (λ (entry : ℕ × Txn). entry.0) (made_by state.next runs)
    → StepsTo state (changing state [] book drawn (answer.ScheduleRun numbers)) result
    → StepsTo state (schedule_run_of state rules runs) result
run-changed state rules [] drawn book numbers result some unbroken room count leads made h = absurd (some refl)
run-changed state rules (run ∷ more) drawn book numbers result some unbroken room count leads made h =
    let runs = run ∷ more in
    let counts = too_many_made state.book runs ∷ too_many_splits_made state.book runs ∷ [] in
    let all = map (λ (entry : ℕ × Txn). entry.0) (made_by state.next runs) in
    past-changing state (rules ++ counts) (book_ran state.book state.next runs) (drawn_by runs)
    (answer.ScheduleRun all) result (first-past rules counts unbroken ∙ room)
    (subst (λ (ns : List ℕ). StepsTo state (changing state [] (book_ran state.book state.next runs) (drawn_by runs)
    (answer.ScheduleRun ns)) result) made
    (subst (λ (b : Book). StepsTo state (changing state [] b (drawn_by runs) (answer.ScheduleRun numbers)) result) leads
    (subst (λ (n : ℕ). StepsTo state (changing state [] book n (answer.ScheduleRun numbers)) result) count h)))

pub run-left :
    (state : State) (rules : List (Option Rule)) (runs : List Run) (result : Result Step Refusal) → runs ≡ []
    → first_broken rules ≡ None → StepsTo state (leaving state [] (answer.ScheduleRun [])) result
    → StepsTo state (schedule_run_of state rules runs) result
run-left state rules [] result none unbroken h = past-leaving state rules (answer.ScheduleRun []) result unbroken h
run-left state rules (run ∷ more) result none unbroken h = absurd cc

-- where a rule is broken before, the run is broken with it
pub run-stopped :
    (state : State) (rules : List (Option Rule)) (runs : List Run) (rule : Rule) → first_broken rules ≡ Some rule
    → schedule_run_of state rules runs ≡ Broken rule
run-stopped state rules [] rule broken = broken-leaving state rules (answer.ScheduleRun []) rule broken
run-stopped state rules (run ∷ more) rule broken =
    let runs = run ∷ more in
    let counts = too_many_made state.book runs ∷ too_many_splits_made state.book runs ∷ [] in
    broken-changing state (rules ++ counts) (book_ran state.book state.next runs) (drawn_by runs)
    (answer.ScheduleRun (map (λ (entry : ℕ × Txn). entry.0) (made_by state.next runs))) rule
    (first-here rules counts rule broken)

-- ---- the room

-- where there is room for all, they draw few numbers
pub counts-few :
    (book : Book) (runs : List Run)
    → first_broken (too_many_made book runs ∷ too_many_splits_made book runs ∷ []) ≡ None → drawn_by runs ≤ 1200000
counts-few book runs e =
    let kept = kept_of (too_many_made book runs ∷ too_many_splits_made book runs ∷ []) e in
    let few = not-broken _ _ kept.0 in
    let few_splits = not-broken _ _ kept.1.0 in
    let total = drawn-counts runs in
    let transactions : length book.transactions + transactions_by runs ≤ 200000 = grind (arith, nat_tests, few) in
    let splits : length (splits_of book.transactions) + splits_by runs ≤ 1000000 =
    grind (arith, nat_tests, few_splits) in
    omega (arith, total, transactions, splits)

pub made-below-more : (most more : ℕ) (runs : List Run) → most ≤ more → MadeBelow most runs → MadeBelow more runs
made-below-more most more [] le all = tt
made-below-more most more (run ∷ rest) le all =
    let first = all.0 in (omega (arith, first, le), made-below-more most more rest le all.1)

-- there is an edit for each schedule
pub run-edits-some :
    (front : List Edit) (runs : List Run) → runs ≢ [] → front ++ schedule_edits (ran_by runs) ≢ []
run-edits-some front [] some none = some refl
run-edits-some [] (run ∷ more) some none = absurd cc
run-edits-some (edit ∷ front) (run ∷ more) some none = absurd cc

-- ---- what is refused before the run

pub run-refused :
    (state : State) (upto : ℤ) (only : Option ℕ) (given : Refusal)
    → Finds {T = List Run} (asked_rules state upto only)
    (λ runs. runs ≡ runs_of upto (asked only state.book.schedules)) (Err given)
    → StepsTo state (schedule_run state upto only) (Err given)
run-refused state upto only (refusal.Broken rule) broken =
    run-stopped state (asked_rules state upto only) (runs_of upto (asked only state.book.schedules)) rule broken
run-refused state upto only refusal.Keeper none = absurd none
run-refused state upto only refusal.OutOfMemory none = tt

-- what is found stands among the schedules
pub found-runs :
    (state : State) (upto : ℤ) (only : Option ℕ) (runs found : List Run) → found ≡ runs
    → runs ≡ runs_of upto (asked only state.book.schedules) → IsSound state
    → AreRuns state.book.schedules found × Rises (ran_by found)
found-runs state upto only runs found one other is =
    let schedules = state.book.schedules in
    let part = asked_part only schedules is.book.schedules.rise in
    subst (λ (rs : List Run). AreRuns schedules rs × Rises (ran_by rs)) (sym (one ∙ other)) (
      runs_are upto schedules (asked only schedules) part.rise part.there,
      runs_rise upto (asked only schedules) part.rise,
    )
