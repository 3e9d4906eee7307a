-- A new schedule, and one that is deleted, lead from a sound state to a sound one.
use Rattle.std.proofs.Common.{◌≡◌, ℕ, ◌+◌, nat_lt, not, Bool, true, false, List, [], ◌∷◌, length, map}
use Rattle.std.proofs.Common.{is_none, refl, ap, arith}
use Rattle.std.specs.List.{list_all}
use Rattle.std.proofs.lemmas.Bool.{and_from, and_parts}
use Rattle.std.proofs.lemmas.Bool.Decides.{nat_tests}
use Rattle.book_commodity.specs.Rules.{AllKept, first_broken}
use Rattle.book_commodity.proofs.DrawnLemmas.{length_drawn}
use Rattle.book_commodity.proofs.ListLemmas.{mapped_none}
use Rattle.book_commodity.proofs.RuleLemmas.{kept_back, kept_front, not-broken}
use Rattle.book_splits.specs.Check.{txn_rules}
use Rattle.book_schedule.specs.declared.recurrence.Recurrence.{Recurrence}
use Rattle.book_sound.specs.ScheduleRules.{has_multiplier, has_occurrences, is_blank}
use Rattle.book_sound.specs.Tests.{is_within}
use Rattle.book_sound.proofs.BookChanges as changes
use Rattle.book_sound.proofs.BookChanges.{schedule_taken}
use Rattle.book_sound.proofs.DrawnChanges.{schedule_drawn, schedule_left_drawn}
use Rattle.book_sound.proofs.DrawnFrames.{drawn_later}
use Rattle.book_undo.specs.Book.{with_thing, without_thing}
use Rattle.book_undo.specs.declared.schedule.Schedule.{Schedule}
use Rattle.book_undo.specs.declared.thing.Thing.TheVariants as thing
use Rattle.book_undo.specs.declared.thing.ThingKind.TheVariants as kind
use Rattle.book_command.specs.Lifted.{of_txn_rule}
use Rattle.book_command.specs.declared.answer.Answer.{Answer}
use Rattle.book_command.specs.declared.answer.Answer.TheVariants as answer
use Rattle.book_command.specs.declared.command.GivenSchedule.{GivenSchedule}
use Rattle.book_command.specs.declared.command.GivenSplit.{GivenSplit}
use Rattle.book_step.specs.Outcome.{Done}
use Rattle.book_step.specs.Posting.{new_split}
use Rattle.book_step.specs.Schedules.{add_rules, entry_rules, has_shape, multipliers, new_schedule, range_rule}
use Rattle.book_step.specs.Schedules.{schedule_add, schedule_add_from}
use Rattle.book_step.specs.Schedules.{schedule_drop, schedule_put, shape_rules, unknown_schedule}
use Rattle.book_step.specs.Soundness.{IsSound}
use Rattle.book_step.specs.State.{State}
use Rattle.book_step.proofs.SoundOutcome.{changing_done, sound_after}

not_false : (b : Bool) → not b ≡ false → b ≡ true
not_false true e = refl
not_false false e = absurd cc

-- recurrences that keep their rules step on
multipliers_kept :
    (place : ℕ) (rs : List Recurrence) → AllKept (multipliers place rs) → list_all has_multiplier rs ≡ true
multipliers_kept place [] kept = refl
multipliers_kept place (r ∷ more) kept =
    and_from (has_multiplier r) (list_all has_multiplier more) (not_false (has_multiplier r) (not-broken _ _ kept.0))
    (multipliers_kept (place + 1) more kept.1)

-- the splits of a new template are none of the book
all_blank : (given : List GivenSplit) → list_all is_blank (map (new_split 0) given) ≡ true
all_blank [] = refl
all_blank (split ∷ more) = all_blank more

put-sound :
    (state : State) (schedule : Schedule) (new : State) (answered : Answer)
    → list_all is_blank schedule.template.splits ≡ true → is_none schedule.template.voided ≡ true
    → schedule.timing.made ≡ 0 → IsSound state
    → schedule_put state schedule ≡ Done new answered → IsSound new
put-sound state schedule new answered blank unvoided none is e =
    let book = state.book in
    let timing = schedule.timing in
    let rules = add_rules book schedule in
    let rest = entry_rules book schedule in
    let later = with_thing state.next (thing.Schedule schedule) book in
    let change = changing_done state rules later 1 (answer.ScheduleAdd state.next) new answered e in
    let shape = kept_front (shape_rules timing) rest change.kept in
    let others = kept_back (shape_rules timing) rest change.kept in
    let ranges = range_rule timing ∷ [] in
    let steps = multipliers_kept 0 timing.recurrences (kept_front (multipliers 0 timing.recurrences) ranges shape) in
    let shaped = not_false (has_shape timing)
    (not-broken _ _ (kept_back (multipliers 0 timing.recurrences) ranges shape).0) in
    let count = and_parts (is_within 1 12 (length timing.recurrences)) _ shaped in
    let end = and_parts (has_occurrences timing.end) (not (nat_lt 366 timing.advance)) count.1 in
    let check = ap is_none
    (mapped_none of_txn_rule (first_broken (txn_rules book.commodities book.accounts schedule.template)) others.0) in
    let few = not-broken _ _ others.1.0 in
    let longer = length_drawn state.next schedule book.schedules is.book.schedules.rise is.drawn.schedules in
    sound_after state rules later 1 new change
    (changes.schedule_put book state.next schedule
    (steps, (count.0, (end.0, (end.1, (check, (blank, (unvoided, tt))))))) (grind (arith, nat_tests, few, longer)) is.book)
    (schedule_drawn book state.next (state.next + 1) schedule (omega arith) (omega (arith, none))
    (drawn_later book state.next (state.next + 1) (omega arith) is.drawn))

add_from-sound :
    (state : State) (given : GivenSchedule) (rs : List Recurrence) (new : State) (answered : Answer) → IsSound state
    → schedule_add_from state given rs ≡ Done new answered → IsSound new
add_from-sound state given [] new answered is e = absurd cc
add_from-sound state given (first ∷ more) new answered is e =
    put-sound state (new_schedule first.start given) new answered (all_blank given.template.splits) refl refl is e

pub schedule_add-sound :
    (state : State) (given : GivenSchedule) (new : State) (answered : Answer) → IsSound state
    → schedule_add state given ≡ Done new answered → IsSound new
schedule_add-sound state given new answered is e = add_from-sound state given given.recurrences new answered is e

pub schedule_drop-sound :
    (state : State) (n : ℕ) (new : State) (answered : Answer) → IsSound state
    → schedule_drop state n ≡ Done new answered → IsSound new
schedule_drop-sound state n new answered is e =
    let book = state.book in
    let rules = unknown_schedule book.schedules n ∷ [] in
    let left = without_thing kind.Schedule n book in
    let change = changing_done state rules left 0 answer.ScheduleDrop new answered e in
    let drawn = drawn_later book state.next (state.next + 0) (omega arith) is.drawn in
    sound_after state rules left 0 new change (schedule_taken book n is.book)
    (schedule_left_drawn book n (state.next + 0) drawn)
