use Rattle.book_undo.specs.Book.{book_of}
use Rattle.book_history.proofs.WalkLemmas.{refused_told}
use Rattle.book_history.proofs.walk.is_allowed.Goals as goal

pub returns-clause-told : goal.returns-clause-told
returns-clause-told c =
    refused_told (book_of c.args.plain.now) c.args.edit.now c.check_edit.result c.is_ok.result c.check_edit.ensures
    c.is_ok.ensures.value
