use Rattle.std.proofs.Common.{[], ◌∷◌, ◌++◌, List, Option, map}
use Rattle.book_commodity.specs.Table.{value_of}
use Rattle.book_commodity.proofs.RuleLemmas.{reports-past}
use Rattle.book_command.specs.declared.rule.Rule.{Rule}
use Rattle.book_step.specs.Accounts.{unknown_account}
use Rattle.book_step.specs.BankLines.{line_taken}
use Rattle.book_step.specs.LineAdding.{other_commodity}
use Rattle.book_step.proofs.OutcomeLemmas.{reported}
use Rattle.book_step.proofs.line_adding.check_given.Goals as goal

pub returns-in_err-check_accounts : goal.returns-in_err-check_accounts
returns-in_err-check_accounts c =
    let accounts = c.args.present.now.book.accounts in
    let unknown : List (Option Rule) = map (λ other. unknown_account accounts other.account) c.args.others.now in
    let wrong : List (Option Rule) =
    map (λ other. other_commodity c.args.commodity (value_of other.account accounts)) c.args.others.now in
    reports-past (line_taken c.args.number c.args.line.now ∷ []) (unknown ++ wrong)
    c.from_residual-in_err-check_accounts.result c.in_ok-check_open.ensures
    (reported unknown wrong c.in_err-check_accounts.field-0.0 c.from_residual-in_err-check_accounts.result
    c.from_residual-in_err-check_accounts.ensures.1 c.in_err-check_accounts.ensures)

pub returns : goal.returns
returns c =
    let accounts = c.args.present.now.book.accounts in
    let unknown : List (Option Rule) = map (λ other. unknown_account accounts other.account) c.args.others.now in
    let wrong : List (Option Rule) =
    map (λ other. other_commodity c.args.commodity (value_of other.account accounts)) c.args.others.now in
    reports-past (line_taken c.args.number c.args.line.now ∷ []) (unknown ++ wrong) c.check_commodities.result
    c.in_ok-check_open.ensures
    (reports-past unknown wrong c.check_commodities.result c.in_ok-check_accounts.ensures c.check_commodities.ensures)
