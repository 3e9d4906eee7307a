use Rattle.std.proofs.Common.{sym}
use Rattle.book_undo.specs.Book.{book_of}
use Rattle.book_step.proofs.ImportWalkLemmas.{known-fraction}
use Rattle.book_step.proofs.statement_files.read_in.Goals as goal

pub read_qif-requires : goal.read_qif-requires
read_qif-requires c =
    known-fraction (book_of c.present.inside.plain.now) c.args.currency c.in-Some.commodity.now
    c.present.invariant.book (sym c.in-Some.ensures)
