use Rattle.std.proofs.Common.{ap, sym, ◌∙◌}
use Rattle.book_undo.specs.Edit.{is_nothing}
use Rattle.book_undo.proofs.ExactLaws.{nothing_tested}
use Rattle.book_undo.proofs.edit.Edit.is_nothing.Goals as goal

pub returns-in-All : goal.returns-in-All
returns-in-All c =
    nothing_tested _ c.is_empty.result c.is_empty.ensures ∙ ap is_nothing (sym c.in-All.is)
