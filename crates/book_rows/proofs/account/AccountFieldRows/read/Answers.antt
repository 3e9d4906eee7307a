-- The fields that the bytes spell are those of the value.
use Rattle.book_rows.proofs.MadeLemmas.{same_made}
use Rattle.book_rows.specs.AccountBytes.{account_made}
use Rattle.book_rows.proofs.account.AccountFieldRows.read.Goals as goal

pub returns-in-Err-clause-again : goal.returns-in-Err-clause-again
returns-in-Err-clause-again c it rest fit told =
    c.in-Err.ensures.again
    (it.name, (it.kind, (it.commodity, (it.parent, (it.code, (it.note, (it.hidden, (it.placeholder, it.basis))))))))
    rest fit told

pub returns-clause-again : goal.returns-clause-again
returns-clause-again c it rest fit told =
    rw c.account_of.ensures (same_made account_made _ _ _ _
    (c.in-Ok.ensures.again
    (it.name, (it.kind, (it.commodity, (it.parent, (it.code, (it.note, (it.hidden, (it.placeholder, it.basis))))))))
    rest fit told))
