-- The two passes lead to the book to which the edit leads.
use Rattle.std.proofs.Common.{ap, ◌∙◌}
use Rattle.book_undo.specs.Book.{book_of}
use Rattle.book_undo.specs.Edit.{leaves}
use Rattle.book_history.specs.Passes.{changed}
use Rattle.book_history.proofs.PassLaws.{two_passes}
use Rattle.book_history.proofs.passing.pass.Goals as goal

pub returns-clause-book : goal.returns-clause-book
returns-clause-book c =
    c.in_ok-change.ensures.book ∙ ap (changed (leaves c.args.edit.now)) c.in_ok-standing.ensures.book
    ∙ two_passes (book_of c.args.plain.now) c.args.edit.now c.rising.ensures c.requires.allowed
