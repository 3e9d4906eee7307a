use Rattle.book_undo.specs.Book.{book_of}
use Rattle.book_listings.proofs.TransactionFacts.{lent-each}
use Rattle.book_listings.proofs.present.PresentBook.transaction.Goals as goal

pub returns-clause-kept : goal.returns-clause-kept
returns-clause-kept c =
    lent-each (book_of c.self.inside.plain) c.args.number c.find.result c.self.invariant.0 c.find.ensures
