-- The change leaves the book sound, which is known to be so.
use Rattle.std.proofs.Common.{sym, ◌∙◌}
use Rattle.std.proofs.lemmas.Bool.{not-false}
use Rattle.book_undo.specs.Book.{book_of}
use Rattle.book_history.proofs.LeavingLemmas.{sound_left, sound_placed}
use Rattle.book_history.proofs.passing.known_after.Goals as goal

pub returns-then-leaves_sound : goal.returns-then-leaves_sound
returns-then-leaves_sound c = λ known.
    sound_left c.args.next (book_of c.args.plain.now) c.args.edit.now (c.requires known)
    (sym c.leaves_sound.ensures ∙ c.if-leaves_sound.true)

pub returns : goal.returns
returns c = λ fits.
    sound_placed c.args.next (book_of c.args.plain.now) c.args.edit.now
    (c.requires (not-false _ c.if-not-standing.false)) (sym c.in_ok-known.ensures ∙ fits)
