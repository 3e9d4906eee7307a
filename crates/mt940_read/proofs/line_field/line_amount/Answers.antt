use Rattle.std.proofs.Common.{ap, ◌∙◌}
use Rattle.mt940_read.specs.Amounts.{is_amount}
use Rattle.mt940_read.proofs.FormLemmas.{line_parts}
use Rattle.mt940_read.proofs.line_field.line_amount.Goals as goal

pub amount-requires : goal.amount-requires
amount-requires c = ap is_amount c.parts_of-parts.ensures.amount ∙ (line_parts c.args.text.now c.requires).amount
