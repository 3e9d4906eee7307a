use Rattle.std.proofs.Common.{rules}
use Rattle.book_wire.specs.Posting.{transaction}
use Rattle.book_wire.proofs.StepLemmas.{stop}
use Rattle.book_wire.proofs.posting.transaction_of.Goals as goal

pub returns-in_err-splits : goal.returns-in_err-splits
unfolding transaction
returns-in_err-splits g c =
    rw (c.in_ok-currency.ensures, c.in_ok-num.ensures, c.in_ok-description.ensures)
    (stop _ _ _ _ _ _ c.in_err-splits.ensures (search rules))

pub returns : goal.returns
unfolding transaction
returns g c = rw (c.in_ok-currency.ensures, c.in_ok-num.ensures, c.in_ok-description.ensures) (search rules)
