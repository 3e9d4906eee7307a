-- The bytes of schedules.
use Rattle.std.specs.Prelude.{ℕ, ℤ, List, [], ◌∷◌, ◌++◌, Option, IfSome}
use Rattle.book_commodity.specs.Day.{IsDay}
use Rattle.book_codec.specs.Words.{number, signed, string, optional, listed}
use Rattle.book_rows.specs.Values.{IsNumber, IsShort, IsString, AreItems}
use Rattle.book_schedule.specs.declared.recurrence.RecurrenceKind.{RecurrenceKind}
use Rattle.book_schedule.specs.declared.recurrence.RecurrenceKind.TheVariants.{Once, Daily, Weekly, Monthly}
use Rattle.book_schedule.specs.declared.recurrence.RecurrenceKind.TheVariants.{EndOfMonth, NthWeekday, LastWeekday}
use Rattle.book_schedule.specs.declared.recurrence.RecurrenceKind.TheVariants.{Yearly}
use Rattle.book_schedule.specs.declared.recurrence.Adjust.{Adjust}
use Rattle.book_schedule.specs.declared.recurrence.Adjust.TheVariants.{Nothing, Back, Forward}
use Rattle.book_schedule.specs.declared.timing.End.{End}
use Rattle.book_schedule.specs.declared.timing.End.TheVariants.{Never, Until, After}
use Rattle.book_schedule.specs.declared.recurrence.Recurrence.{Recurrence}
use Rattle.book_schedule.specs.declared.timing.Timing.{Timing}
use Rattle.book_undo.specs.declared.schedule.Schedule.{Schedule}
use Rattle.book_splits.specs.declared.transaction.Txn.{Txn}
use Rattle.book_rows.specs.TransactionBytes.{txn_bytes, IsTxn}
use Rattle.book_rows.specs.declared.format.RowFormat.{RowFormat}

-- The place of a kind of recurrence in the list of them, from 1.
abbrev pub place_of_recurrence_kind : RecurrenceKind → ℕ
place_of_recurrence_kind Once = 1
place_of_recurrence_kind Daily = 2
place_of_recurrence_kind Weekly = 3
place_of_recurrence_kind Monthly = 4
place_of_recurrence_kind EndOfMonth = 5
place_of_recurrence_kind NthWeekday = 6
place_of_recurrence_kind LastWeekday = 7
place_of_recurrence_kind Yearly = 8

-- A kind of recurrence as one byte, its place.
abbrev pub recurrence_kind_bytes : RecurrenceKind → List ℕ
recurrence_kind_bytes variant = place_of_recurrence_kind variant ∷ []

-- Each kind of recurrence has a spelling.
abbrev pub IsRecurrenceKind : RecurrenceKind → Type 0
IsRecurrenceKind variant = Unit {0}

-- The place of an adjustment in the list of them, from 1.
abbrev pub place_of_adjust : Adjust → ℕ
place_of_adjust Nothing = 1
place_of_adjust Back = 2
place_of_adjust Forward = 3

-- An adjustment as one byte, its place.
abbrev pub adjust_bytes : Adjust → List ℕ
adjust_bytes variant = place_of_adjust variant ∷ []

-- Each adjustment has a spelling.
abbrev pub IsAdjust : Adjust → Type 0
IsAdjust variant = Unit {0}

-- The end of a schedule: the byte 1 for never; 2 and the last day; or 3 and the number of occurrences.
abbrev pub end_bytes : End → List ℕ
end_bytes Never = 1 ∷ []
end_bytes (Until value) = 2 ∷ signed value
end_bytes (After value) = 3 ∷ number value

-- An end that has a spelling: its day, if any, is one of 1900 to 2199, and its number of occurrences is of 64 bits.
abbrev pub IsEnd : End → Type 0
IsEnd Never = Unit {0}
IsEnd (Until value) = IsDay value
IsEnd (After value) = IsNumber value

-- A recurrence: its kind, its step, its start and its adjustment.
abbrev pub recurrence_bytes : Recurrence → List ℕ
recurrence_bytes it =
    recurrence_kind_bytes it.kind ++ (number it.every ++ (signed it.start ++ adjust_bytes it.adjust))

-- A recurrence that has a spelling: its step is a number of 32 bits, and its start a day of 1900 to 2199.
abbrev pub IsRecurrence : Recurrence → Type 0
IsRecurrence it =
    IsRecurrenceKind it.kind × (IsShort it.every × (IsDay it.start × IsAdjust it.adjust))

-- The recurrence whose fields these are, in the order of its bytes.
abbrev pub recurrence_made : (RecurrenceKind × (ℕ × (ℤ × Adjust))) → Recurrence
recurrence_made fields =
    record { kind = fields.0; every = fields.1.0; start = fields.1.1.0; adjust = fields.1.1.1 }

-- A timing: its recurrences, its end, the days in advance, the last day made and the number made.
abbrev pub timing_bytes : Timing → List ℕ
timing_bytes it =
    listed recurrence_bytes it.recurrences ++ (end_bytes it.end ++ (number it.advance ++ (optional signed it.last
    ++ number it.made)))

-- A timing that has a spelling: its recurrences and its end have one, the days in advance are a number of 32 bits, and
-- the last day made, if any, is one of 1900 to 2199.
abbrev pub IsTiming : Timing → Type 0
IsTiming it =
    AreItems IsRecurrence it.recurrences × (IsEnd it.end × (IsShort it.advance × (IfSome it.last IsDay
    × IsNumber it.made)))

-- The timing whose fields these are, in the order of its bytes.
abbrev pub timing_made : (List Recurrence × (End × (ℕ × (Option ℤ × ℕ)))) → Timing
timing_made fields =
    record {
      recurrences = fields.0;
      end = fields.1.0;
      advance = fields.1.1.0;
      last = fields.1.1.1.0;
      made = fields.1.1.1.1;
    }

-- A schedule: its name, its timing, and its template as a transaction of the format.
abbrev pub schedule_bytes : RowFormat → Schedule → List ℕ
schedule_bytes format it =
    string it.name ++ (timing_bytes it.timing ++ txn_bytes format it.template)

-- A schedule that has a spelling in a format: its name is UTF-8, and its timing and its template have a spelling.
abbrev pub IsSchedule : RowFormat → Schedule → Type 0
IsSchedule format it =
    IsString it.name × (IsTiming it.timing × IsTxn format it.template)

-- The schedule with these fields, in the order of its bytes, and this template.
abbrev pub schedule_made : ((List ℕ × Timing) × Txn) → Schedule
schedule_made made =
    record { name = made.0.0; timing = made.0.1; template = made.1 }
