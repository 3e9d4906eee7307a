-- The fields that the bytes spell are those of the value.
use Rattle.book_rows.proofs.MadeLemmas.{same_made}
use Rattle.book_rows.specs.TransactionBytes.{split_made}
use Rattle.book_rows.proofs.transaction.SplitFieldRows.read.Goals as goal

pub returns-in-Err-clause-again : goal.returns-in-Err-clause-again
returns-in-Err-clause-again c it rest fit told =
    c.in-Err.ensures.again
    (it.id, (it.account, (it.memo, (it.action, (it.mark, (it.recon, (it.value, it.quantity)))))))
    rest fit told

pub returns-clause-again : goal.returns-clause-again
returns-clause-again c it rest fit told =
    rw c.split_of.ensures (same_made split_made _ _ _ _
    (c.in-Ok.ensures.again
    (it.id, (it.account, (it.memo, (it.action, (it.mark, (it.recon, (it.value, it.quantity)))))))
    rest fit told))
