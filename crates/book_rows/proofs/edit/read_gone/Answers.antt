-- The kind and the number that the bytes spell are those of the thing that is deleted.
use Rattle.std.proofs.Common.{ℕ, subst}
use Rattle.book_undo.specs.declared.edit.Edit.{Gone}
use Rattle.book_undo.specs.declared.thing.ThingKind.{ThingKind}
use Rattle.book_rows.specs.EditBytes.{HasValues}
use Rattle.book_rows.proofs.EditLemmas.{gone_at, made_edit}
use Rattle.book_rows.proofs.edit.read_gone.Goals as goal

pub returns-in-Err-clause-again : goal.returns-in-Err-clause-again
returns-in-Err-clause-again c format edit rest has e =
    let at = gone_at format edit _ rest e in
    c.in-Err.ensures.again (at.kind, at.it) rest (tt, subst (HasValues format) at.is has) at.spelled

pub returns-in-Ok-clause-again : goal.returns-in-Ok-clause-again
returns-in-Ok-clause-again c format edit rest has e =
    let at = gone_at format edit _ rest e in
    made_edit (λ (it : ThingKind × ℕ). Gone it.0 it.1) _ _ edit _ _ at.is
    (c.in-Ok.ensures.again (at.kind, at.it) rest (tt, subst (HasValues format) at.is has) at.spelled)
