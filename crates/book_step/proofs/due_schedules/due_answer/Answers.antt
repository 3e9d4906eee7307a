use Rattle.std.proofs.Common.{sym, subst}
use Rattle.book_undo.specs.Book.{book_of}
use Rattle.book_step.specs.Schedules.{AreTimed}
use Rattle.book_step.proofs.ScheduleLemmas.{sound_timed}
use Rattle.book_step.proofs.due_schedules.due_answer.Goals as goal

pub runs_of-requires : goal.runs_of-requires
runs_of-requires c = subst AreTimed (sym c.as_slice.ensures) (sound_timed (book_of c.args.plain.now) c.requires)
