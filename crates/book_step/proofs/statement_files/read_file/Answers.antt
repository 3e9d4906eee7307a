use Rattle.book_undo.specs.Book.{book_of}
use Rattle.book_step.proofs.ImportWalkLemmas.{known-fractions}
use Rattle.book_step.proofs.statement_files.read_file.Goals as goal

pub read_mt940-requires : goal.read_mt940-requires
read_mt940-requires c = known-fractions (book_of c.present.inside.plain.now) c.present.invariant.book
