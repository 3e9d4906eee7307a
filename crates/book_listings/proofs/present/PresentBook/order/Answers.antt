use Rattle.book_sound.proofs.SoundFacts.{accounts_are_rooted}
use Rattle.book_undo.specs.Book.{book_of}
use Rattle.book_listings.proofs.present.PresentBook.order.Goals as goal

pub order-requires : goal.order-requires
order-requires c = accounts_are_rooted (book_of c.self.inside.plain) c.self.invariant.0
