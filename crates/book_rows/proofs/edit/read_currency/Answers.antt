-- The number that the bytes spell is that of the currency.
use Rattle.std.proofs.Common.{subst}
use Rattle.book_undo.specs.declared.edit.Edit.{Currency}
use Rattle.book_rows.specs.EditBytes.{HasValues}
use Rattle.book_rows.proofs.EditLemmas.{currency_at, made_edit}
use Rattle.book_rows.proofs.edit.read_currency.Goals as goal

pub returns-in-Err-clause-again : goal.returns-in-Err-clause-again
returns-in-Err-clause-again c format edit rest has e =
    let at = currency_at format edit _ rest e in
    c.in-Err.ensures.again at.it rest (subst (HasValues format) at.is has) at.spelled

pub returns-in-Ok-clause-again : goal.returns-in-Ok-clause-again
returns-in-Ok-clause-again c format edit rest has e =
    let at = currency_at format edit _ rest e in
    made_edit (λ it. Currency it) _ _ edit _ _ at.is
    (c.in-Ok.ensures.again at.it rest (subst (HasValues format) at.is has) at.spelled)
