-- The fields that the bytes spell are those of the value.
use Rattle.book_rows.proofs.MadeLemmas.{same_made}
use Rattle.book_rows.specs.StatementBytes.{binding_made}
use Rattle.book_rows.proofs.statement.BindingFieldRows.read.Goals as goal

pub returns-in-Err-clause-again : goal.returns-in-Err-clause-again
returns-in-Err-clause-again c it rest fit told =
    c.in-Err.ensures.again (it.text, it.account) rest fit told

pub returns-clause-again : goal.returns-clause-again
returns-clause-again c it rest fit told =
    rw c.binding_of.ensures (same_made binding_made _ _ _ _
    (c.in-Ok.ensures.again (it.text, it.account) rest fit told))
