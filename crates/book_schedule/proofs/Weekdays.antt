-- What the searches know of weekdays.
use Rattle.jiff_core.proofs.CalendarLemmas.{weekday_number_bound}

-- A weekday is one of seven.
pub ruleset weekdays = (weekday_number_bound)
