-- The answers of the commands on schedules, each with the version after it.
use Rattle.std.specs.Prelude.{◌≡◌, ℕ, List, [], ◌∷◌, codes, false, refl}
use Rattle.serde_json.specs.Data.{Data, Members, array, item, no_items}
use Rattle.serde_json.specs.Written.{has_float}
use Rattle.book_command.specs.declared.answer.DueDay.{DueDay}
use Rattle.book_command.specs.declared.word.Word.TheVariants.{ScheduleAdd, ScheduleDrop, ScheduleRun, Due}
use Rattle.book_texts.specs.Fields.{answered}
use Rattle.book_texts.specs.Shown.{day_data, list_data, number_data}

-- `schedule_add`: the number of the new schedule.
abbrev pub schedule_add : ℕ → ℕ → Members
schedule_add schedule = answered ScheduleAdd ((codes "schedule", number_data schedule) ∷ [])

-- `schedule_drop` has no field of its own.
abbrev pub schedule_drop : ℕ → Members
schedule_drop = answered ScheduleDrop []

-- `schedule_run`: the numbers of the new transactions.
abbrev pub schedule_run : List ℕ → ℕ → Members
schedule_run transactions = answered ScheduleRun ((codes "transactions", list_data number_data transactions) ∷ [])

-- A day that is due: the number of its schedule, and the text of the day.
abbrev pub due_data : DueDay → Data
due_data due = array (item (number_data due.schedule) (item (day_data due.day) no_items))

-- No number of it has a fraction.
pub due-plain : (due : DueDay) → has_float (due_data due) ≡ false
due-plain due = refl

-- `due`: the days that are due.
abbrev pub due : List DueDay → ℕ → Members
due days = answered Due ((codes "due", list_data due_data days) ∷ [])
