use Rattle.book_undo.specs.Book.{book_of}
use Rattle.book_history.proofs.WalkLemmas.{unsound_told}
use Rattle.book_history.proofs.walk.is_sound.Goals as goal

pub returns-clause-told : goal.returns-clause-told
returns-clause-told c =
    unsound_told c.args.next (book_of c.args.plain.now) c.in_ok-first_unsound.field-0 c.is_none.result
    c.in_ok-first_unsound.ensures.found c.is_none.ensures
