-- The commands that add and delete schedules, and the days that are due (GnuCash Manual, scheduled transactions).
use Rattle.std.specs.Prelude.{◌≡◌, ℕ, ◌+◌, nat_lt, not, Bool, ◌&&◌, ℤ, All, List, [], ◌∷◌, ◌++◌, map, flat_map}
use Rattle.std.specs.Prelude.{length, Option, Some, None, is_none, Result, Ok, Err, ⊤}
use Rattle.std.specs.Int.{IsInRange}
use Rattle.book_commodity.specs.Rules.{broken_where, first_broken}
use Rattle.book_commodity.specs.Table.{value_of}
use Rattle.book_commodity.specs.declared.counted.Counted.TheVariants.{Days, Schedules}
use Rattle.book_commodity.specs.declared.kind.Kind.TheVariants as kind
use Rattle.book_splits.specs.declared.transaction.Txn.{Txn}
use Rattle.book_schedule.specs.declared.recurrence.Recurrence.{Recurrence}
use Rattle.book_schedule.specs.declared.timing.Timing.{Timing}
use Rattle.book_sound.specs.ScheduleRules.{has_multiplier, has_occurrences}
use Rattle.book_sound.specs.Tests.{is_within}
use Rattle.book_undo.specs.Book.{Book, with_thing, without_thing}
use Rattle.book_undo.specs.declared.schedule.Schedule.{Schedule}
use Rattle.book_undo.specs.declared.thing.Thing.TheVariants as thing
use Rattle.book_undo.specs.declared.thing.ThingKind.TheVariants as thing_kind
use Rattle.book_step.specs.DueDays.{due_days}
use Rattle.book_step.specs.Outcome.{Outcome, Broken, changing}
use Rattle.book_step.specs.Posting.{broken_by, new_split}
use Rattle.book_step.specs.State.{State}
use Rattle.book_command.specs.declared.answer.Answer.TheVariants as answer
use Rattle.book_command.specs.declared.answer.DueDay.{DueDay}
use Rattle.book_command.specs.declared.command.GivenSchedule.{GivenSchedule}
use Rattle.book_command.specs.declared.command.GivenTxn.{GivenTxn}
use Rattle.book_command.specs.declared.refusal.Refusal.{Refusal}
use Rattle.book_command.specs.declared.refusal.Refusal.TheVariants as refusal
use Rattle.book_command.specs.declared.rule.Rule.{Rule}
use Rattle.book_command.specs.declared.rule.Rule.TheVariants.{Limit, RecurrenceShape, Unknown}

-- ---- a new schedule

-- A recurrence at a place steps on by 1 to 10,000 at a time (a limit of this project).
abbrev pub multiplier_rule : ℕ → Recurrence → Option Rule
multiplier_rule place recurrence = broken_where (not (has_multiplier recurrence)) (RecurrenceShape place)

-- The same of the recurrences from a place on.
abbrev pub multipliers : ℕ → List Recurrence → List (Option Rule)
multipliers place [] = []
multipliers place (recurrence ∷ more) = multiplier_rule place recurrence ∷ multipliers (place + 1) more

-- Whether there are 1 to 12 recurrences, the end leaves room for an occurrence, and the transactions are made at most
-- 366 days in advance (limits of this project).
abbrev pub has_shape : Timing → Bool
has_shape timing =
    is_within 1 12 (length timing.recurrences) && (has_occurrences timing.end && not (nat_lt 366 timing.advance))

-- The rule of these ranges. It carries the count of the recurrences.
abbrev pub range_rule : Timing → Option Rule
range_rule timing = broken_where (not (has_shape timing)) (RecurrenceShape (length timing.recurrences))

-- The rules of what recurs.
abbrev pub shape_rules : Timing → List (Option Rule)
shape_rules timing = multipliers 0 timing.recurrences ++ range_rule timing ∷ []

-- The transaction that a schedule makes, as the schedule keeps it: its splits are none of the book, and have no numbers
-- yet.
abbrev pub template : ℤ → GivenTxn → Txn
template day given = record {
  currency = given.currency;
  day = day;
  num = given.num;
  description = given.description;
  splits = map (new_split 0) given.splits;
  voided = None;
}

-- A new schedule, whose template is of a day: nothing is made yet.
abbrev pub new_schedule : ℤ → GivenSchedule → Schedule
new_schedule day given = record {
  name = given.name;
  timing = record {
    recurrences = given.recurrences;
    end = given.end;
    advance = given.advance;
    last = None;
    made = 0;
  };
  template = template day given.template;
}

-- A book has at most 1,000 schedules (a limit of this project).
abbrev pub too_many_schedules : List (ℕ × Schedule) → Option Rule
too_many_schedules schedules = broken_where (nat_lt 1000 (length schedules + 1)) (Limit Schedules 1000)

-- The rules of a new schedule among the things of a book: its template's as a transaction, and the limit of schedules.
abbrev pub entry_rules : Book → Schedule → List (Option Rule)
entry_rules book schedule = broken_by book schedule.template ∷ too_many_schedules book.schedules ∷ []

-- The rules of a new schedule: those of what recurs come first.
abbrev pub add_rules : Book → Schedule → List (Option Rule)
add_rules book schedule = shape_rules schedule.timing ++ entry_rules book schedule

-- The new schedule stands in the book, under the next number.
abbrev pub schedule_put : State → Schedule → Outcome
schedule_put state schedule =
    changing state (add_rules state.book schedule) (with_thing state.next (thing.Schedule schedule) state.book) 1
    (answer.ScheduleAdd state.next)

-- The day of its template is the start of its first recurrence. Without one it has no shape.
abbrev pub schedule_add_from : State → GivenSchedule → List Recurrence → Outcome
schedule_add_from state given [] = Broken (RecurrenceShape 0)
schedule_add_from state given (first ∷ more) = schedule_put state (new_schedule first.start given)

-- A new schedule.
abbrev pub schedule_add : State → GivenSchedule → Outcome
schedule_add state given = schedule_add_from state given given.recurrences

-- ---- a schedule that is deleted

-- The book has no schedule of this number.
abbrev pub unknown_schedule : List (ℕ × Schedule) → ℕ → Option Rule
unknown_schedule schedules number = broken_where (is_none (value_of number schedules)) (Unknown kind.Schedule number)

-- The schedule of a number is deleted.
abbrev pub schedule_drop : State → ℕ → Outcome
schedule_drop state number =
    changing state (unknown_schedule state.book.schedules number ∷ [])
    (without_thing thing_kind.Schedule number state.book) 0 answer.ScheduleDrop

-- ---- the days that are due

-- A schedule under its number, with its days that are due.
pub record Run : Type 0 where
  pub number : ℕ
  pub schedule : Schedule
  pub days : List ℤ

-- One more of them where it has a day that is due.
abbrev pub with_run : ℕ × Schedule → List ℤ → List Run → List Run
with_run entry [] runs = runs
with_run entry (day ∷ days) runs = record { number = entry.0; schedule = entry.1; days = day ∷ days } ∷ runs

-- The schedules with a day that is due up to a day, in order of their numbers, with these days.
abbrev pub runs_of : ℤ → List (ℕ × Schedule) → List Run
runs_of upto [] = []
runs_of upto (entry ∷ more) = with_run entry (due_days entry.1.timing upto) (runs_of upto more)

-- A schedule has at most 1,000 days that are due (a limit of this project).
abbrev pub day_rule : ℤ → Timing → Option Rule
day_rule upto timing = broken_where (nat_lt 1000 (length (due_days timing upto))) (Limit Days 1000)

-- So has each of these.
abbrev pub day_rules : ℤ → List (ℕ × Schedule) → List (Option Rule)
day_rules upto [] = []
day_rules upto (entry ∷ more) = day_rule upto entry.1.timing ∷ day_rules upto more

-- A day that is due, with the number of its schedule.
abbrev pub due_on : ℕ → ℤ → DueDay
due_on number day = record { schedule = number; day = day }

-- The days of one schedule, each with its number.
abbrev pub days_of_run : Run → List DueDay
days_of_run run = map (due_on run.number) run.days

-- The days of these schedules, in order of the schedules and of the days.
abbrev pub days_due : List Run → List DueDay
days_due runs = flat_map days_of_run runs

-- The days of a book that are due up to a day.
abbrev pub due_of : Book → ℤ → List DueDay
due_of book upto = days_due (runs_of upto book.schedules)

-- ---- what a call finds

-- What a call gives that asks rules: a value of which this holds, where none is broken, or the first that is. Out of
-- memory needs no cause.
abbrev pub Finds : {T : Type 0} → List (Option Rule) → (T → Type 0) → Result T Refusal → Type 0
Finds rules Holds (Ok found) = (first_broken rules ≡ None) × Holds found
Finds rules Holds (Err (refusal.Broken rule)) = first_broken rules ≡ Some rule
Finds rules Holds (Err refusal.Keeper) = ⊥
Finds rules Holds (Err refusal.OutOfMemory) = ⊤

-- Recurrences whose occurrences can be counted: each steps on.
abbrev pub StepOn : List Recurrence → Type 0
StepOn recurrences = All (λ recurrence. IsInRange 1 10000 recurrence.every) recurrences

-- So do those of each of these schedules.
abbrev pub AreTimed : List (ℕ × Schedule) → Type 0
AreTimed schedules = All (λ entry. StepOn entry.1.timing.recurrences) schedules
