-- The fields that the bytes spell are those of the value.
use Rattle.book_rows.proofs.MadeLemmas.{same_made}
use Rattle.book_rows.specs.StatementBytes.{held_made}
use Rattle.book_rows.proofs.statement.HeldFieldRows.read.Goals as goal

pub returns-in-Err-clause-again : goal.returns-in-Err-clause-again
returns-in-Err-clause-again c it rest fit told =
    c.in-Err.ensures.again
    (it.account, (it.account_text, (it.number, (it.opening, (it.closing, (it.day, it.ties))))))
    rest fit told

pub returns-clause-again : goal.returns-clause-again
returns-clause-again c it rest fit told =
    rw c.held_of.ensures (same_made held_made _ _ _ _
    (c.in-Ok.ensures.again
    (it.account, (it.account_text, (it.number, (it.opening, (it.closing, (it.day, it.ties))))))
    rest fit told))
