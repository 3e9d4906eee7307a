-- Each split of the book has a number of its own.
use Rattle.book_undo.specs.Book.{book_of}
use Rattle.book_free.proofs.SplitsOnce.{splits_once}
use Rattle.book_step.proofs.auto_matching.matches.Goals as goal

pub propose_kept-requires : goal.propose_kept-requires
propose_kept-requires c = record {
  once = splits_once (book_of c.present.inside.plain.now) c.present.invariant.book;
}
