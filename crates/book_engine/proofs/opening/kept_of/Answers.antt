-- The transactions of a sound book have few splits each.
use Rattle.book_balances.proofs.MoveLemmas.{has_places}
use Rattle.book_undo.specs.Book.{book_of}
use Rattle.book_engine.proofs.opening.kept_of.Goals as goal

pub of-requires : goal.of-requires
of-requires c = has_places (book_of c.args.plain.now) c.requires
