-- The edit of a run of schedules is exact for a sound book, and leads to the book of the run; so are those of a new
-- schedule and of one that is deleted.
use Rattle.std.proofs.Common.{◌≡◌, ◌≢◌, ℕ, ◌-◌, ◌^◌, ◌<◌, ◌≤◌, nat_lt, max, min, Bool, false, All, List, [], ◌∷◌}
use Rattle.std.proofs.Common.{◌++◌, flat_map, map, Option, Some, None, is_none, option_map, refl, sym, ap, inl, inr}
use Rattle.std.proofs.Common.{subst, ◌∙◌, arith}
use Rattle.std.proofs.lemmas.Bool.{cases_lt}
use Rattle.std.proofs.lemmas.Bool.Decides.{nat_tests}
use Rattle.book_commodity.specs.Rules.{broken_where}
use Rattle.book_commodity.specs.Table.{AllAbove, Rises, value_of, with_entry}
use Rattle.book_commodity.proofs.DrawnLemmas.{drawn_before, drawn_free}
use Rattle.book_splits.specs.declared.transaction.Txn.{Txn}
use Rattle.book_undo.specs.Book.{Book}
use Rattle.book_undo.specs.Edit.{Key, Leaf, OfPut, depth, deepest, edited, edited_all, key_at, leaves}
use Rattle.book_undo.specs.EditRules.{first_missing, first_unordered, out_of_order}
use Rattle.book_undo.specs.Exact.{IsExact}
use Rattle.book_undo.specs.declared.edit.Edit.{Edit, All as AllOf, Gone, Put}
use Rattle.book_undo.specs.declared.rule.EditRule.{EditRule}
use Rattle.book_undo.specs.declared.rule.EditRule.TheVariants.{OutOfOrder, TooDeep}
use Rattle.book_undo.specs.declared.schedule.Schedule.{Schedule}
use Rattle.book_undo.specs.declared.thing.Thing.{Thing}
use Rattle.book_undo.specs.declared.thing.Thing.TheVariants as thing
use Rattle.book_undo.specs.declared.thing.ThingKind.TheVariants as kind
use Rattle.book_undo.proofs.ExactLaws.{AllChange, exact_gone, exact_of, exact_put}
use Rattle.book_undo.proofs.PartLaws.{depth_of_all, edited_of_all, leaves_of_all}
use Rattle.book_undo.proofs.ThreeRules.{three_none}
use Rattle.book_sound.proofs.SoundFacts.{tables_rise}
use Rattle.book_step.specs.ScheduleRuns.{AreRuns, book_ran, made_by, ran, ran_by, run_edits, schedule_edits}
use Rattle.book_step.specs.ScheduleRuns.{transaction_edits}
use Rattle.book_step.specs.ScheduleRuns.{with_entries}
use Rattle.book_step.specs.Schedules.{Run}
use Rattle.book_step.specs.Soundness.{IsSound}
use Rattle.book_step.specs.State.{State}
use Rattle.book_step.proofs.RunLemmas.{made_by-above, made_by-rises}

-- ---- a schedule alone

none_some : (found : Option Schedule) (y : Thing) → found ≡ None → option_map (λ s. thing.Schedule s) found ≢ Some y
none_some None y none same = absurd cc
none_some (Some x) y none same = absurd cc

mapped_there :
    (found : Option Schedule) → is_none found ≡ false → is_none (option_map (λ s. thing.Schedule s) found) ≡ false
mapped_there None there = there
mapped_there (Some s) there = refl

pub new_schedule :
    (state : State) (schedule : Schedule) → IsSound state
    → IsExact state.book (Put state.next (thing.Schedule schedule))
new_schedule state schedule is =
    let free = drawn_free state.next state.book.schedules is.drawn.schedules in
    exact_put state.book state.next (thing.Schedule schedule) (tables_rise state.book is.book)
    (none_some (value_of state.next state.book.schedules) (thing.Schedule schedule) free)

pub schedule_gone :
    (state : State) (n : ℕ) → IsSound state → is_none (value_of n state.book.schedules) ≡ false
    → IsExact state.book (Gone kind.Schedule n)
schedule_gone state n is there =
    exact_gone state.book kind.Schedule n (tables_rise state.book is.book)
    (mapped_there (value_of n state.book.schedules) there)

-- ---- the book that a run's edits lead to

pub edited_behind :
    (xs ys : List Edit) (book : Book) → edited_all (xs ++ ys) book ≡ edited_all ys (edited_all xs book)
edited_behind [] ys book = refl
edited_behind (x ∷ xs) ys book = edited_behind xs ys (edited x book)

pub edited_transactions :
    (made : List (ℕ × Txn)) (book : Book)
    → edited_all (transaction_edits made) book
    ≡ record book { transactions = with_entries made book.transactions }
edited_transactions [] book = refl
edited_transactions (put ∷ more) book =
    edited_transactions more (record book { transactions = with_entry put.0 put.1 book.transactions })

edited_schedules :
    (rans : List (ℕ × Schedule)) (book : Book)
    → edited_all (schedule_edits rans) book ≡ record book { schedules = with_entries rans book.schedules }
edited_schedules [] book = refl
edited_schedules (put ∷ more) book =
    edited_schedules more (record book { schedules = with_entry put.0 put.1 book.schedules })

pub run_leads :
    (book : Book) (next : ℕ) (runs : List Run) → edited (AllOf (run_edits next runs)) book ≡ book_ran book next runs
run_leads book next runs =
    let made = made_by next runs in
    edited_of_all (run_edits next runs) book
    ∙ edited_behind (transaction_edits made) (schedule_edits (ran_by runs)) book
    ∙ ap (edited_all (schedule_edits (ran_by runs))) (edited_transactions made book)
    ∙ edited_schedules (ran_by runs) (record book { transactions = with_entries made book.transactions })

-- ---- the leaves

abbrev pub transaction_leaves : List (ℕ × Txn) → List Leaf
transaction_leaves made = map (λ (e : ℕ × Txn). OfPut e.0 (thing.Txn e.1)) made

abbrev schedule_leaves : List (ℕ × Schedule) → List Leaf
schedule_leaves rans = map (λ (e : ℕ × Schedule). OfPut e.0 (thing.Schedule e.1)) rans

leaves_of_schedules :
    (rans : List (ℕ × Schedule)) → flat_map leaves (schedule_edits rans) ≡ schedule_leaves rans
leaves_of_schedules [] = refl
leaves_of_schedules (put ∷ more) =
    ap (λ (ls : List Leaf). OfPut put.0 (thing.Schedule put.1) ∷ ls) (leaves_of_schedules more)

leaves_of_both :
    (made : List (ℕ × Txn)) (rans : List (ℕ × Schedule))
    → flat_map leaves (transaction_edits made ++ schedule_edits rans)
    ≡ transaction_leaves made ++ schedule_leaves rans
leaves_of_both [] rans = leaves_of_schedules rans
leaves_of_both (put ∷ more) rans =
    ap (λ (ls : List Leaf). OfPut put.0 (thing.Txn put.1) ∷ ls) (leaves_of_both more rans)

deepest_schedules : (rans : List (ℕ × Schedule)) → deepest (schedule_edits rans) ≡ 0
deepest_schedules [] = refl
deepest_schedules (put ∷ more) = ap (λ (d : ℕ). max 0 d) (deepest_schedules more)

deepest_both :
    (made : List (ℕ × Txn)) (rans : List (ℕ × Schedule))
    → deepest (transaction_edits made ++ schedule_edits rans) ≡ 0
deepest_both [] rans = deepest_schedules rans
deepest_both (put ∷ more) rans = ap (λ (d : ℕ). max 0 d) (deepest_both more rans)

missing_schedules :
    (book : Book) (rans : List (ℕ × Schedule)) → first_missing book (schedule_leaves rans) ≡ None
missing_schedules book [] = refl
missing_schedules book (put ∷ more) = missing_schedules book more

missing_both :
    (book : Book) (made : List (ℕ × Txn)) (rans : List (ℕ × Schedule))
    → first_missing book (transaction_leaves made ++ schedule_leaves rans) ≡ None
missing_both book [] rans = missing_schedules book rans
missing_both book (put ∷ more) rans = missing_both book more rans

-- their keys rise: first those of the transactions, then those of the schedules
order_of_schedules :
    (before : Key) (rans : List (ℕ × Schedule)) → before.kind ≡ 6 → AllAbove before.number rans → Rises rans
    → first_unordered before (schedule_leaves rans) ≡ None
order_of_schedules before [] here above r = refl
order_of_schedules before (put ∷ more) here above r =
    let rest = order_of_schedules (key_at 6 put.0) more refl r.0 r.1 in
    grind (arith, nat_tests, here, above.0, rest)

order_behind :
    (before : Key) (rans : List (ℕ × Schedule)) → before.kind < 6 → Rises rans
    → first_unordered before (schedule_leaves rans) ≡ None
order_behind before [] less r = refl
order_behind before (put ∷ more) less r =
    let rest = order_of_schedules (key_at 6 put.0) more refl r.0 r.1 in grind (arith, nat_tests, less, rest)

order_of_both :
    (before : Key) (made : List (ℕ × Txn)) (rans : List (ℕ × Schedule)) → before.kind ≡ 4
    → AllAbove before.number made → Rises made → Rises rans
    → first_unordered before (transaction_leaves made ++ schedule_leaves rans) ≡ None
order_of_both before [] rans here above r s = order_behind before rans (omega (arith, here)) s
order_of_both before (put ∷ more) rans here above r s =
    let rest = order_of_both (key_at 4 put.0) more rans refl r.0 r.1 s in
    grind (arith, nat_tests, here, above.0, rest)

order_all :
    (made : List (ℕ × Txn)) (rans : List (ℕ × Schedule)) → Rises made → Rises rans
    → first_unordered (key_at 0 0) (transaction_leaves made ++ schedule_leaves rans) ≡ None
order_all [] rans r s = order_behind (key_at 0 0) rans (omega arith) s
order_all (put ∷ more) rans r s =
    let rest = order_of_both (key_at 4 put.0) more rans refl r.0 r.1 s in grind (arith, nat_tests, rest)

-- ---- each changes what stands at its key

none_there : (found : Option Txn) (y : Thing) → found ≡ None → option_map (λ t. thing.Txn t) found ≢ Some y
none_there None y none same = absurd cc
none_there (Some x) y none same = absurd cc

one_schedule : (old new : Schedule) → Some (thing.Schedule old) ≡ Some (thing.Schedule new) → new ≡ old
one_schedule old new same = cc

schedules_change :
    (book : Book) (runs : List Run) → AreRuns book.schedules runs → AllChange book (schedule_leaves (ran_by runs))
schedules_change book [] are = tt
schedules_change book (run ∷ more) are =
    let some = are.0.1 in (
      λ same.
          let one = one_schedule run.schedule (ran run)
          (sym (ap (option_map (λ (s : Schedule). thing.Schedule s)) are.0.0) ∙ same) in
          let made = ap (λ (s : Schedule). s.timing.made) one in
          absurd (omega (arith, made, some)),
      schedules_change book more are.1,
    )

-- Numbers from one on: each smaller one lies below all of them.
abbrev AreFrom : ℕ → List (ℕ × Txn) → Type 0
AreFrom next made = (b : ℕ) → b < next → AllAbove b made

from_least : (next n : ℕ) → ((b : ℕ) → b < next → b < n) → next ≤ n
from_least next n above =
    elim (cases_lt n next) [ inl less ↦ absurd (let more = above n less in omega (arith, more)) | inr le ↦ le ]

both_change :
    (book : Book) (next : ℕ) (made : List (ℕ × Txn)) (runs : List Run)
    → All (λ (e : ℕ × Txn). e.0 < next) book.transactions → AreFrom next made → AreRuns book.schedules runs
    → AllChange book (transaction_leaves made ++ schedule_leaves (ran_by runs))
both_change book next [] runs below from are = schedules_change book runs are
both_change book next (put ∷ more) runs below from are =
    let le = from_least next put.0 (λ b less. (from b less).0) in
    let free = drawn_free put.0 book.transactions (drawn_before next put.0 book.transactions le below) in (
      none_there (value_of put.0 book.transactions) (thing.Txn put.1) free,
      both_change book next more runs below (λ b less. (from b less).1) are,
    )

-- ---- the edit

pub run_exact :
    (state : State) (runs : List Run) → IsSound state → AreRuns state.book.schedules runs → Rises (ran_by runs)
    → IsExact state.book (AllOf (run_edits state.next runs))
run_exact state runs is are r =
    let book = state.book in
    let made = made_by state.next runs in
    let rans = ran_by runs in
    let edits = run_edits state.next runs in
    let whole = AllOf edits in
    let all : leaves whole ≡ transaction_leaves made ++ schedule_leaves rans =
    leaves_of_all edits ∙ leaves_of_both made rans in
    let named : Option ℕ → Option EditRule = option_map (λ place. OutOfOrder (min place (2 ^ 64 - 1))) in
    let deep = depth_of_all edits in
    let shallow = deepest_both made rans in
    let few : nat_lt 8 (depth whole) ≡ false = grind (arith, nat_tests, deep, shallow) in
    let allowed = three_none (first_missing book (leaves whole)) (out_of_order (leaves whole))
    (broken_where (nat_lt 8 (depth whole)) TooDeep)
    (ap (first_missing book) all ∙ missing_both book made rans)
    (ap out_of_order all ∙ ap named (order_all made rans (made_by-rises state.next runs) r))
    (ap (λ (b : Bool). broken_where b TooDeep) few) in
    exact_of book whole (tables_rise book is.book) allowed
    (subst (λ (ls : List Leaf). AllChange book ls) (sym all)
    (both_change book state.next made runs is.drawn.transactions (λ b less. made_by-above b state.next runs less) are))
