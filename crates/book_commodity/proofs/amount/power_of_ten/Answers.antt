use Rattle.book_commodity.proofs.AmountLemmas.{power_at, power_positive}
use Rattle.book_commodity.proofs.amount.power_of_ten.Goals as goal

pub returns-clause-power : goal.returns-clause-power
returns-clause-power c = power_at c.args.exponent c.requires

pub returns-clause-positive : goal.returns-clause-positive
returns-clause-positive c = power_positive c.args.exponent c.requires
