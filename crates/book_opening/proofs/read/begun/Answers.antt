-- A state without rows behind its head.
use Rattle.book_undo.specs.Book.{book_of}
use Rattle.book_opening.proofs.ReadLaws.{begun_state}
use Rattle.book_opening.proofs.read.begun.Goals as goal

pub returns : goal.returns
returns c =
    begun_state c.args.head.now (book_of c.new.result) c.new-2.result.entries c.new-3.result.entries c.new.ensures
    c.new-2.ensures c.new-3.ensures
