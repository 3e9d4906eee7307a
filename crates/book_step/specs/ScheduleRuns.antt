-- The transactions that schedules make on the days that are due (GnuCash Manual, scheduled transactions).
use Rattle.std.specs.Prelude.{◌≡◌, ℕ, ◌+◌, ◌*◌, ◌<◌, ◌≤◌, nat_lt, ⊤, ℤ, List, [], ◌∷◌, ◌++◌, map, length, Option, Some}
use Rattle.std.specs.Prelude.{None}
use Rattle.book_commodity.specs.Rules.{broken_where}
use Rattle.book_commodity.specs.Table.{value_of, with_entry}
use Rattle.book_commodity.specs.declared.counted.Counted.TheVariants.{Splits, Transactions}
use Rattle.book_splits.specs.Balance.{splits_of}
use Rattle.book_splits.specs.declared.split.Mark.TheVariants.{New}
use Rattle.book_splits.specs.declared.split.Split.{Split}
use Rattle.book_splits.specs.declared.transaction.Txn.{Txn}
use Rattle.book_undo.specs.Book.{Book}
use Rattle.book_undo.specs.declared.edit.Edit.{Edit, Put}
use Rattle.book_undo.specs.declared.schedule.Schedule.{Schedule}
use Rattle.book_undo.specs.declared.thing.Thing.TheVariants as thing
use Rattle.book_step.specs.Outcome.{Outcome, changing, leaving}
use Rattle.book_step.specs.Schedules.{Run, day_rules, runs_of, unknown_schedule}
use Rattle.book_step.specs.State.{State}
use Rattle.book_step.specs.declared.schedule_runs.Making.{Making}
use Rattle.book_command.specs.declared.answer.Answer.TheVariants as answer
use Rattle.book_command.specs.declared.rule.Rule.{Rule}
use Rattle.book_command.specs.declared.rule.Rule.TheVariants.{Limit}

-- ---- the transactions that are made

-- The split that is made of one of a template has a number, is new, and is of no reconciliation.
abbrev pub made_split : ℕ → Split → Split
made_split number split = record split { id = number; mark = New; recon = None }

-- The splits that are made of a template's draw their numbers in its order.
abbrev pub made_splits : ℕ → List Split → List Split
made_splits number [] = []
made_splits number (split ∷ more) = made_split number split ∷ made_splits (number + 1) more

-- The transaction that is made of a template on a day draws its number, the next for its first split, and so on.
abbrev pub made_transaction : ℕ → ℤ → Txn → Txn
made_transaction number day template =
    record template { day = day; splits = made_splits (number + 1) template.splits; voided = None }

-- How many numbers such a transaction draws.
abbrev pub drawn_of : Txn → ℕ
drawn_of template = 1 + length template.splits

-- One transaction for each day, in the order of the days, under the number that it draws.
abbrev pub made_on : ℕ → Txn → List ℤ → List (ℕ × Txn)
made_on next template [] = []
made_on next template (day ∷ days) =
    (next, made_transaction next day template) ∷ made_on (next + drawn_of template) template days

-- How many numbers are drawn for a schedule's days.
abbrev pub drawn_on : Run → ℕ
drawn_on run = length run.days * drawn_of run.schedule.template

-- The transactions of all these schedules, one schedule after another.
abbrev pub made_by : ℕ → List Run → List (ℕ × Txn)
made_by next [] = []
made_by next (run ∷ more) =
    made_on next run.schedule.template run.days ++ made_by (next + drawn_on run) more

-- How many numbers they draw.
abbrev pub drawn_by : List Run → ℕ
drawn_by [] = 0
drawn_by (run ∷ more) = drawn_on run + drawn_by more

-- ---- the schedules that made them

-- The last of some days, or the one given where there is none.
abbrev pub last_day_of : Option ℤ → List ℤ → Option ℤ
last_day_of given [] = given
last_day_of given (day ∷ days) = last_day_of (Some day) days

-- The schedule after its transactions are made on these days.
abbrev pub ran : Run → Schedule
ran run =
    let timing = run.schedule.timing in
    record run.schedule {
      timing = record timing { last = last_day_of timing.last run.days; made = timing.made + length run.days };
    }

-- The schedules that made transactions, under their numbers.
abbrev pub ran_by : List Run → List (ℕ × Schedule)
ran_by runs = map (λ run. (run.number, ran run)) runs

-- ---- the run

-- A table with some entries put, one after another.
abbrev pub with_entries : {T : Type 0} → List (ℕ × T) → List (ℕ × T) → List (ℕ × T)
with_entries [] entries = entries
with_entries (put ∷ more) entries = with_entries more (with_entry put.0 put.1 entries)

-- The book in which the transactions stand that are made, and the schedules that made them.
abbrev pub book_ran : Book → ℕ → List Run → Book
book_ran book next runs = record book {
  transactions = with_entries (made_by next runs) book.transactions;
  schedules = with_entries (ran_by runs) book.schedules;
}

-- How many transactions are made,
abbrev pub transactions_by : List Run → ℕ
transactions_by [] = 0
transactions_by (run ∷ more) = length run.days + transactions_by more

-- and how many splits these have.
abbrev pub splits_by : List Run → ℕ
splits_by [] = 0
splits_by (run ∷ more) = length run.days * length run.schedule.template.splits + splits_by more

-- A book has at most 200,000 transactions (a limit of this project).
abbrev pub too_many_made : Book → List Run → Option Rule
too_many_made book runs =
    broken_where (nat_lt 200000 (length book.transactions + transactions_by runs)) (Limit Transactions 200000)

-- A book has at most 1,000,000 splits (a limit of this project).
abbrev pub too_many_splits_made : Book → List Run → Option Rule
too_many_splits_made book runs =
    broken_where (nat_lt 1000000 (length (splits_of book.transactions) + splits_by runs)) (Limit Splits 1000000)

-- The schedule of a number, as a list, and all schedules where no number is given.
abbrev pub found_under : ℕ → Option Schedule → List (ℕ × Schedule)
found_under number None = []
found_under number (Some schedule) = (number, schedule) ∷ []

abbrev pub asked : Option ℕ → List (ℕ × Schedule) → List (ℕ × Schedule)
asked None schedules = schedules
asked (Some number) schedules = found_under number (value_of number schedules)

-- A schedule that is asked for is one of the book's.
abbrev pub unknown_asked : Option ℕ → List (ℕ × Schedule) → Option Rule
unknown_asked None schedules = None
unknown_asked (Some number) schedules = unknown_schedule schedules number

-- The rules that are asked before anything is made: of the schedule that is asked for, and of the days.
abbrev pub asked_rules : State → ℤ → Option ℕ → List (Option Rule)
asked_rules state upto only =
    unknown_asked only state.book.schedules ∷ day_rules upto (asked only state.book.schedules)

-- A run of these schedules, each of which has a day that is due. Without one the book stays as it is.
abbrev pub schedule_run_of : State → List (Option Rule) → List Run → Outcome
schedule_run_of state rules [] = leaving state rules (answer.ScheduleRun [])
schedule_run_of state rules (run ∷ more) =
    let runs = run ∷ more in
    changing state (rules ++ too_many_made state.book runs ∷ too_many_splits_made state.book runs ∷ [])
    (book_ran state.book state.next runs) (drawn_by runs)
    (answer.ScheduleRun (map (λ entry. entry.0) (made_by state.next runs)))

-- The transactions that are due up to a day are made, of all schedules or of one: one change of the book.
abbrev pub schedule_run : State → ℤ → Option ℕ → Outcome
schedule_run state upto only =
    schedule_run_of state (asked_rules state upto only) (runs_of upto (asked only state.book.schedules))

-- ---- the edit

-- The edits that put the transactions,
abbrev pub transaction_edits : List (ℕ × Txn) → List Edit
transaction_edits made = map (λ entry. Put entry.0 (thing.Txn entry.1)) made

-- those that put the schedules,
abbrev pub schedule_edits : List (ℕ × Schedule) → List Edit
schedule_edits rans = map (λ entry. Put entry.0 (thing.Schedule entry.1)) rans

-- and all of them, by rising keys.
abbrev pub run_edits : ℕ → List Run → List Edit
run_edits next runs = transaction_edits (made_by next runs) ++ schedule_edits (ran_by runs)

-- ---- what is made on the way

-- What was made between two moments: these transactions, up to this next number.
abbrev pub HasMade : Making → List (ℕ × Txn) → ℕ → Making → Type 0
HasMade old made next new =
    (new.edits ≡ old.edits ++ transaction_edits made) × (new.numbers ≡ old.numbers ++ map (λ entry. entry.0) made)
    × (new.next ≡ next)

-- Each of these stands among the schedules under its number, and has a day that is due.
abbrev pub AreRuns : List (ℕ × Schedule) → List Run → Type 0
AreRuns schedules [] = ⊤
AreRuns schedules (run ∷ more) =
    ((value_of run.number schedules ≡ Some run.schedule) × (1 ≤ length run.days)) × AreRuns schedules more

-- The number made of each of these, and its days, are less than a number.
abbrev pub MadeBelow : ℕ → List Run → Type 0
MadeBelow next [] = ⊤
MadeBelow next (run ∷ more) = (run.schedule.timing.made + length run.days < next) × MadeBelow next more
