-- The fields that the bytes spell are those of the value.
use Rattle.book_rows.proofs.MadeLemmas.{same_made}
use Rattle.book_rows.specs.TransactionBytes.{txn_made}
use Rattle.book_rows.proofs.transaction.TxnFieldRows.read.Goals as goal

pub returns-in-Err-clause-again : goal.returns-in-Err-clause-again
returns-in-Err-clause-again c it rest fit told =
    c.in-Err.ensures.again ((it.currency, (it.day, (it.num, (it.description, it.splits)))), it.voided) rest fit told

pub returns-clause-again : goal.returns-clause-again
returns-clause-again c it rest fit told =
    rw c.txn_of.ensures (same_made txn_made _ _ _ _
    (c.in-Ok.ensures.again ((it.currency, (it.day, (it.num, (it.description, it.splits)))), it.voided) rest fit told))
