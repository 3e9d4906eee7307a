-- A reconciliation is kept whatever its number.
use Rattle.std.proofs.lemmas.Result.{IfOk-weaker}
use Rattle.book_sound.specs.ReconciliationRules.{reconciliation_rules}
use Rattle.book_check.proofs.SeenLemmas.{kept_alone}
use Rattle.book_check.proofs.reconciliations.ReconciliationWalkChecked.keeps.Goals as goal

pub returns-clause-kept : goal.returns-clause-kept
returns-clause-kept c =
    let walk = c.args.self.now in
    IfOk-weaker c.keeps_rules.result _ _
    (λ kept is. kept_alone (reconciliation_rules walk.accounts.now.entries) walk.reconciliations.now.entries
    c.args.place c.value_at-reconciliation.result.now kept c.value_at-reconciliation.ensures (λ n _. is n))
    c.keeps_rules.ensures
