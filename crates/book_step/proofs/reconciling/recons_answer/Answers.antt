use Rattle.book_undo.specs.Book.{book_of}
use Rattle.book_free.proofs.SplitsOnce.{splits_once}
use Rattle.book_step.proofs.reconciling.recons_answer.Goals as goal

pub recons_of-requires : goal.recons_of-requires
recons_of-requires c = splits_once (book_of c.args.plain.now) c.requires
