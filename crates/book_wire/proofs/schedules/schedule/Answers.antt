use Rattle.std.proofs.Common.{rules}
use Rattle.book_wire.specs.Schedules.{schedule}
use Rattle.book_wire.proofs.StepLemmas.{stop}
use Rattle.book_wire.proofs.schedules.schedule.Goals as goal

pub returns-in_err-template : goal.returns-in_err-template
unfolding schedule
returns-in_err-template c =
    rw (c.in_ok-name.ensures, c.in_ok-recurrences.ensures, c.in_ok-end.ensures, c.in_ok-advance.ensures)
    (stop _ _ _ _ _ _ c.in_err-template.ensures (search rules))

pub returns : goal.returns
unfolding schedule
returns c =
    rw (c.in_ok-name.ensures, c.in_ok-recurrences.ensures, c.in_ok-end.ensures, c.in_ok-advance.ensures)
    (search rules)
