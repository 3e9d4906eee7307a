-- The key that was found says whether the book is sound.
use Rattle.std.proofs.Common.{sym, ◌∙◌}
use Rattle.book_undo.specs.Book.{book_of}
use Rattle.book_check.proofs.Unsound.{none_where_sound, sound_where_none}
use Rattle.book_check.proofs.book.first_unsound.Goals as goal

pub returns-clause-sound : goal.returns-clause-sound
returns-clause-sound c none =
    sound_where_none (book_of c.args.plain.now) c.args.next c.rising.ensures (sym c.in_ok-found.ensures ∙ none)

pub returns-clause-kept : goal.returns-clause-kept
returns-clause-kept c sound drawn =
    c.in_ok-found.ensures ∙ none_where_sound (book_of c.args.plain.now) c.args.next sound drawn
