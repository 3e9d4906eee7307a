use Rattle.std.proofs.Common.{sym, subst}
use Rattle.book_undo.specs.Book.{book_of}
use Rattle.book_step.specs.Schedules.{AreTimed}
use Rattle.book_step.proofs.ScheduleLemmas.{one_timed, sound_timed}
use Rattle.book_step.proofs.schedule_runs.asked_runs.Goals as goal

pub runs_of-requires : goal.runs_of-requires
runs_of-requires c =
    subst AreTimed (sym c.as_slice.ensures)
    (sound_timed (book_of c.present.inside.plain.now) c.present.invariant.book)

pub add_run-requires : goal.add_run-requires
add_run-requires c =
    one_timed (book_of c.present.inside.plain.now) c.in-Some.number c.in-Some-find.schedule.now
    c.present.invariant.book (sym c.in-Some-find.ensures)
