-- When a schedule is due, as a line gives it.
use Rattle.std.specs.Prelude.{ℕ, ◌^◌, ◌-◌, min, ℤ, List, [], ◌∷◌, Option, Some, None, codes, unwrap_or}
use Rattle.book_json.specs.Members.{Form, Reader, needed, optional, gives, refuses, ◌>>=◌}
use Rattle.book_json.specs.Forms.{whole, day_form, among}
use Rattle.book_schedule.specs.declared.recurrence.Adjust.{Adjust}
use Rattle.book_schedule.specs.declared.recurrence.Adjust.TheVariants.{Nothing, Back, Forward}
use Rattle.book_schedule.specs.declared.recurrence.Recurrence.{Recurrence}
use Rattle.book_schedule.specs.declared.recurrence.RecurrenceKind.{RecurrenceKind}
use Rattle.book_schedule.specs.declared.recurrence.RecurrenceKind.TheVariants.{Once, Daily, Weekly, Monthly, EndOfMonth}
use Rattle.book_schedule.specs.declared.recurrence.RecurrenceKind.TheVariants.{NthWeekday, LastWeekday, Yearly}
use Rattle.book_schedule.specs.declared.timing.End.{End}
use Rattle.book_schedule.specs.declared.timing.End.TheVariants.{Until, After}

-- The words of the kinds of recurrences.
abbrev pub recurrence_kinds : List (List ℕ × RecurrenceKind)
recurrence_kinds =
    (codes "once", Once)
    ∷ (codes "day", Daily)
    ∷ (codes "week", Weekly)
    ∷ (codes "month", Monthly)
    ∷ (codes "end of month", EndOfMonth)
    ∷ (codes "nth weekday", NthWeekday)
    ∷ (codes "last weekday", LastWeekday)
    ∷ (codes "year", Yearly)
    ∷ []

-- The text of a kind's word.
unfoldable pub recurrence_kind_form : Form RecurrenceKind
recurrence_kind_form = among recurrence_kinds

-- The words for where a day of the weekend is moved.
abbrev pub adjusts : List (List ℕ × Adjust)
adjusts = (codes "none", Nothing) ∷ (codes "back", Back) ∷ (codes "forward", Forward) ∷ []

-- The text of such a word.
unfoldable pub adjust_form : Form Adjust
adjust_form = among adjusts

-- A number that is kept in 32 bits: a greater one counts as the greatest, which is past each limit too.
abbrev pub in_32_bits : ℕ → ℕ
in_32_bits number = min number (2 ^ 32 - 1)

-- A recurrence; a day of the weekend stays where nothing else is said.
unfoldable pub recurrence : Reader Recurrence
recurrence = do
  kind ← needed recurrence_kind_form (codes "kind")
  every ← needed whole (codes "every")
  start ← needed day_form (codes "start")
  adjust ← optional adjust_form (codes "adjust")
  gives (record { kind = kind; every = in_32_bits every; start = start; adjust = unwrap_or adjust Nothing })

-- An end has one of its two members.
abbrev pub end_of : Option ℤ → Option ℕ → Reader End
end_of (Some last) None = gives (Until last)
end_of None (Some count) = gives (After count)
end_of (Some last) (Some count) = refuses (codes "until")
end_of None None = refuses (codes "until")

-- An end, by date or after so many occurrences.
unfoldable pub end : Reader End
end = do
  until ← optional day_form (codes "until")
  after ← optional whole (codes "after")
  end_of until after
