-- A thing that all the bytes spell is read with nothing behind it.
use Rattle.std.proofs.Common.{◌≡◌, ℕ, List, [], ap, arith}
use Rattle.std.proofs.lemmas.Grind.{common_steps}
use Rattle.book_undo.specs.declared.thing.Thing.{Thing}
use Rattle.book_rows.proofs.thing.read_thing_body.Goals as goal

pub returns-then-not-is_empty-clause-again : goal.returns-then-not-is_empty-clause-again
returns-then-not-is_empty-clause-again c thing kind fits is =
    let same = c.in-Ok.ensures.again thing [] kind fits (grind (arith, common_steps, is)) in
    let none : c.in-Ok.found.1.now ≡ [] = ap (λ (p : Thing × List ℕ). p.1) same in
    let empty = c.is_empty.ensures in
    let full = c.if-not-is_empty.true in
    absurd (grind (arith, common_steps, none, empty, full))

pub returns-in-Err-clause-again : goal.returns-in-Err-clause-again
returns-in-Err-clause-again c thing kind fits is =
    c.in-Err.ensures.again thing [] kind fits (grind (arith, common_steps, is))
