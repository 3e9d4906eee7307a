-- A value that all the bytes spell is read with nothing behind it.
use Rattle.std.proofs.Common.{◌≡◌, ℕ, List, [], sym, ap, ◌∙◌, append-nil, arith}
use Rattle.std.proofs.lemmas.Grind.{common_steps}
use Rattle.book_codec.proofs.whole.read_to_end.Goals as goal

pub returns-in-Err-clause-again : goal.returns-in-Err-clause-again
returns-in-Err-clause-again g c value fit is =
    c.in-Err.ensures.again value [] fit (is ∙ sym (append-nil _))

pub returns-then-not-is_empty-clause-again : goal.returns-then-not-is_empty-clause-again
returns-then-not-is_empty-clause-again g c value fit is =
    let same = c.in-Ok.ensures.again value [] fit (is ∙ sym (append-nil _)) in
    let none : c.in-Ok.found.1.now ≡ [] = ap (λ (p : g.row.T.Denot × List ℕ). p.1) same in
    let empty = c.is_empty.ensures in
    let full = c.if-not-is_empty.true in
    absurd (grind (arith, common_steps, none, empty, full))
