use Rattle.std.proofs.Common.{subst, sym}
use Rattle.book_listings.proofs.ScheduleFacts.{are_timed}
use Rattle.book_listings.specs.Schedules.{AreTimed}
use Rattle.book_undo.specs.Book.{book_of}
use Rattle.book_listings.proofs.present.PresentBook.schedules.Goals as goal

pub returns-clause-timed : goal.returns-clause-timed
returns-clause-timed c =
    subst AreTimed (sym c.as_slice.ensures) (are_timed (book_of c.self.inside.plain) c.self.invariant.0)
