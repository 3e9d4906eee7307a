use Rattle.std.proofs.Common.{rules}
use Rattle.mt940_read.specs.Amounts.{is_amount}
use Rattle.mt940_read.proofs.amount.size.Goals as goal

pub unreachable-requires : goal.unreachable-requires
unfolding is_amount
unreachable-requires c = search rules

pub units_of-requires-clause-whole : goal.units_of-requires-clause-whole
unfolding is_amount
units_of-requires-clause-whole c = search rules

pub units_of-requires-clause-decimals : goal.units_of-requires-clause-decimals
unfolding is_amount
units_of-requires-clause-decimals c = search rules
