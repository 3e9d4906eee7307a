use Rattle.book_sound.proofs.SoundFacts.{accounts_are_rooted}
use Rattle.book_undo.specs.Book.{book_of}
use Rattle.book_listings.proofs.present.PresentBook.path.Goals as goal

pub path_of-requires-clause-rooted : goal.path_of-requires-clause-rooted
path_of-requires-clause-rooted c = accounts_are_rooted (book_of c.self.inside.plain) c.self.invariant.0
