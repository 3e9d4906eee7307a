-- The fields that the bytes spell are those of the value.
use Rattle.book_rows.proofs.MadeLemmas.{same_made}
use Rattle.book_rows.specs.StatementBytes.{statement_line_made}
use Rattle.book_rows.proofs.statement.StatementLineFieldRows.read.Goals as goal

pub returns-in-Err-clause-again : goal.returns-in-Err-clause-again
returns-in-Err-clause-again c it rest fit told =
    c.in-Err.ensures.again
    (it.day, (it.value_day, (it.amount, (it.kind, (it.ref_own, (it.ref_bank, (it.text, (it.category, it.parts))))))))
    rest fit told

pub returns-clause-again : goal.returns-clause-again
returns-clause-again c it rest fit told =
    rw c.statement_line_of.ensures (same_made statement_line_made _ _ _ _
    (c.in-Ok.ensures.again
    (it.day, (it.value_day, (it.amount, (it.kind, (it.ref_own, (it.ref_bank, (it.text, (it.category, it.parts))))))))
    rest fit told))
