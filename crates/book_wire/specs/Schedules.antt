-- The members of the commands on schedules, in the order in which they are read.
use Rattle.std.specs.Prelude.{codes, unwrap_or}
use Rattle.book_json.specs.Members.{Reader, needed, optional, gives, ◌>>=◌}
use Rattle.book_json.specs.Forms.{whole, filled, day_form, list, inner}
use Rattle.book_schedule.specs.declared.timing.End.TheVariants.{Never}
use Rattle.book_command.specs.declared.command.GivenSchedule.{GivenSchedule}
use Rattle.book_command.specs.declared.command.Update.TheVariants as update
use Rattle.book_command.specs.declared.command.What.{What}
use Rattle.book_command.specs.declared.command.What.TheVariants as what
use Rattle.book_wire.specs.Posting.{split, transaction}
use Rattle.book_wire.specs.Recurrences.{end, in_32_bits, recurrence}

-- A schedule. It never ends where no end is given, and its transactions are made on their days where no days in advance
-- are given.
unfoldable pub schedule : Reader GivenSchedule
schedule = do
  name ← needed filled (codes "name")
  recurrences ← needed (list (inner recurrence)) (codes "recurrences")
  given_end ← optional (inner end) (codes "end")
  advance ← optional whole (codes "advance")
  template ← transaction split
  gives (record {
    name = name;
    recurrences = recurrences;
    end = unwrap_or given_end Never;
    advance = in_32_bits (unwrap_or advance 0);
    template = template;
  })

-- A new schedule.
abbrev pub schedule_add : Reader What
schedule_add = do
  given ← schedule
  gives (what.Update (update.ScheduleAdd given))

-- The schedule that is deleted.
abbrev pub schedule_drop : Reader What
schedule_drop = do
  number ← needed whole (codes "schedule")
  gives (what.Update (update.ScheduleDrop number))

-- The day up to which the transactions are made, of one schedule or of all.
abbrev pub schedule_run : Reader What
schedule_run = do
  upto ← needed day_form (codes "upto")
  number ← optional whole (codes "schedule")
  gives (what.Update (update.ScheduleRun upto number))

-- The day up to which the days that are due are asked for.
abbrev pub due : Reader What
due = do
  upto ← needed day_form (codes "upto")
  gives (what.Due upto)
