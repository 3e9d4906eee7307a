-- The fields that the bytes spell are those of the value.
use Rattle.book_rows.proofs.MadeLemmas.{same_made}
use Rattle.book_rows.specs.CommodityBytes.{commodity_made}
use Rattle.book_rows.proofs.commodity.CommodityFieldRows.read.Goals as goal

pub returns-in-Err-clause-again : goal.returns-in-Err-clause-again
returns-in-Err-clause-again c it rest fit told =
    c.in-Err.ensures.again (it.space, (it.name, (it.full_name, it.fraction))) rest fit told

pub returns-clause-again : goal.returns-clause-again
returns-clause-again c it rest fit told =
    rw c.commodity_of.ensures (same_made commodity_made _ _ _ _
    (c.in-Ok.ensures.again (it.space, (it.name, (it.full_name, it.fraction))) rest fit told))
