-- The fields that the bytes spell are those of the value.
use Rattle.book_rows.proofs.MadeLemmas.{same_made}
use Rattle.book_rows.specs.ScheduleBytes.{recurrence_made}
use Rattle.book_rows.proofs.schedule.RecurrenceFieldRows.read.Goals as goal

pub returns-in-Err-clause-again : goal.returns-in-Err-clause-again
returns-in-Err-clause-again c it rest fit told =
    c.in-Err.ensures.again (it.kind, (it.every, (it.start, it.adjust))) rest fit told

pub returns-clause-again : goal.returns-clause-again
returns-clause-again c it rest fit told =
    rw c.recurrence_of.ensures (same_made recurrence_made _ _ _ _
    (c.in-Ok.ensures.again (it.kind, (it.every, (it.start, it.adjust))) rest fit told))
