use Rattle.std.proofs.Common.{FitsSigned, ◌∙◌, rules}
use mir.Syntax.{w128}
use Rattle.std.proofs.lemmas.Int.{to_z-of_z}
use Rattle.book_ledger.proofs.RegisterLemmas.{kept_balance}
use Rattle.book_ledger.proofs.registers.Registers.balance.Goals as goal

pub returns : goal.returns
returns c = λ book kept.
    let fits : FitsSigned w128 c.sum.result = search rules in
    to_z-of_z w128 c.sum.result fits ∙ c.sum.ensures
    ∙ kept_balance c.args.self.now.entries book c.args.account kept
