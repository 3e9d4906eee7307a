-- The fields that the bytes spell are those of the value.
use Rattle.book_rows.proofs.MadeLemmas.{same_made}
use Rattle.book_rows.specs.HeadBytes.{head_made}
use Rattle.book_rows.proofs.head.HeadFieldRows.read.Goals as goal

pub returns-in-Err-clause-again : goal.returns-in-Err-clause-again
returns-in-Err-clause-again c it rest fit told =
    c.in-Err.ensures.again (it.next, (it.version, (it.position, (it.past, (it.later, it.currency))))) rest fit told

pub returns-clause-again : goal.returns-clause-again
returns-clause-again c it rest fit told =
    rw c.head_of.ensures (same_made head_made _ _ _ _
    (c.in-Ok.ensures.again (it.next, (it.version, (it.position, (it.past, (it.later, it.currency))))) rest fit told))
