use Rattle.std.proofs.Common.{rules, ◌≡◌, [], ◌∷◌, Some, ◌∙◌}
use Rattle.book_commodity.specs.Rules.{first_broken}
use Rattle.book_commodity.proofs.RuleLemmas.{first-here, first-past, reports-past}
use Rattle.book_step.specs.Accounts.{drop_rules, not_empty, root_stays}
use Rattle.book_step.specs.InUse.{in_use_rules}
use Rattle.book_step.proofs.accounts.check_drop.Goals as goal

pub returns-in_err-check_empty : goal.returns-in_err-check_empty
returns-in_err-check_empty c =
    let book = c.args.present.now.book in
    let rule = c.in_err-check_empty.field-0.0 in
    let root = root_stays c.args.account.now ∷ [] in
    let empty = not_empty book c.args.number ∷ [] in
    let broken : first_broken (drop_rules book c.args.number c.args.account.now) ≡ Some rule =
    first-past root (not_empty book c.args.number ∷ in_use_rules book c.args.number) c.in_ok-check_not_root.ensures
    ∙ first-here empty (in_use_rules book c.args.number) rule c.in_err-check_empty.ensures in
    search rules

pub returns : goal.returns
returns c =
    let book = c.args.present.now.book in
    let root = root_stays c.args.account.now ∷ [] in
    let empty = not_empty book c.args.number ∷ [] in
    reports-past (root_stays c.args.account.now ∷ empty) (in_use_rules book c.args.number) c.check_unused.result
    (first-past root empty c.in_ok-check_not_root.ensures ∙ c.in_ok-check_empty.ensures) c.check_unused.ensures
