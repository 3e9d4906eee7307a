use Rattle.book_balances.proofs.MoveLemmas.{has_places}
use Rattle.book_undo.specs.Book.{book_of}
use Rattle.book_show.proofs.opening.with_registers.Goals as goal

pub of-requires : goal.of-requires
of-requires c = has_places (book_of c.args.plain) c.requires
