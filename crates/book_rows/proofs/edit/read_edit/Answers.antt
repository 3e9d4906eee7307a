-- An edit that all the bytes spell is read with nothing behind it.
use Rattle.std.proofs.Common.{◌≡◌, ℕ, List, [], ap, arith}
use Rattle.std.proofs.lemmas.Grind.{common_steps}
use Rattle.book_undo.specs.declared.edit.Edit.{Edit}
use Rattle.book_rows.proofs.edit.read_edit.Goals as goal

pub returns-then-not-is_empty-clause-again : goal.returns-then-not-is_empty-clause-again
returns-then-not-is_empty-clause-again c edit fits is =
    let same = c.in-Ok.ensures.again edit [] fits (grind (arith, common_steps, is)) in
    let none : c.in-Ok.found.1.now ≡ [] = ap (λ (p : Edit × List ℕ). p.1) same in
    let empty = c.is_empty.ensures in
    let full = c.if-not-is_empty.true in
    absurd (grind (arith, common_steps, none, empty, full))
