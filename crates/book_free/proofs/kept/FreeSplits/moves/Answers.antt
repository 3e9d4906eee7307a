-- What was seen of the edit says what becomes of the splits.
use Rattle.std.proofs.Common.{ℕ, List, ap, subst, sym, ◌∙◌}
use Rattle.book_undo.specs.Book.{book_of}
use Rattle.book_undo.specs.Edit.{edited}
use Rattle.book_free.specs.FreeSplits.{open_at}
use Rattle.book_free.specs.Moves.{AreMoves}
use Rattle.book_free.specs.Seen.{Seen, all_moves, move_seen}
use Rattle.book_free.specs.declared.moves.Move.{Move}
use Rattle.book_free.proofs.MovesLemmas.{moves_are, seen_is}
use Rattle.book_free.proofs.SplitsOnce.{splits_once}
use Rattle.book_free.proofs.kept.FreeSplits.moves.Goals as goal

pub moves_of-requires : goal.moves_of-requires
moves_of-requires c = splits_once (book_of c.args.plain.now) c.requires.sound

pub returns-in-Ok : goal.returns-in-Ok
returns-in-Ok c =
    let book = book_of c.args.plain.now in
    let edit = c.args.edit.now in
    let matched = c.args.self.now.matched.entries in
    let made : Seen → List (ℕ × Move) = λ seen.
    all_moves (λ s. move_seen seen matched (open_at s book.transactions) s) seen in
    subst (AreMoves book (edited edit book))
    (sym (c.discard.ensures ∙ c.in-Ok.ensures
    ∙ ap made (c.in_ok-seen.ensures ∙ seen_is book edit c.requires.sound c.requires.allowed)))
    (moves_are book edit matched c.requires.sound c.requires.later_sound c.requires.kept.lines)
