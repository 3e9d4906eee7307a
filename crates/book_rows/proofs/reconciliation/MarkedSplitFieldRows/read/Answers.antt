-- The fields that the bytes spell are those of the value.
use Rattle.book_rows.proofs.MadeLemmas.{same_made}
use Rattle.book_rows.specs.ReconciliationBytes.{marked_split_made}
use Rattle.book_rows.proofs.reconciliation.MarkedSplitFieldRows.read.Goals as goal

pub returns-in-Err-clause-again : goal.returns-in-Err-clause-again
returns-in-Err-clause-again c it rest fit told =
    c.in-Err.ensures.again (it.split, it.quantity) rest fit told

pub returns-clause-again : goal.returns-clause-again
returns-clause-again c it rest fit told =
    rw c.marked_split_of.ensures (same_made marked_split_made _ _ _ _
    (c.in-Ok.ensures.again (it.split, it.quantity) rest fit told))
