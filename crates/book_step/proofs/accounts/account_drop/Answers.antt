use Rattle.std.proofs.Common.{Option, Some, refl, subst, sym}
use Rattle.book_accounts.specs.declared.account.Account.{Account}
use Rattle.book_undo.specs.Book.{without_thing}
use Rattle.book_undo.specs.declared.thing.ThingKind.TheVariants as kind
use Rattle.book_step.specs.Accounts.{account_drop_of, drop_rules}
use Rattle.book_step.specs.Outcome.{StepsTo}
use Rattle.book_command.specs.declared.answer.Answer.TheVariants as answer
use Rattle.book_step.proofs.OutcomeLemmas.{broken-changing, past-changing, refused}
use Rattle.book_step.proofs.ExactLemmas.{account_gone}
use Rattle.book_step.proofs.accounts.account_drop.Goals as goal

pub returns-in_err-check_drop : goal.returns-in_err-check_drop
returns-in_err-check_drop c =
    let state = c.args.present.now in
    let rule = c.in_err-check_drop.field-0.0 in
    let old = c.in_ok-account.account.now in
    let result = c.from_residual-in_err-check_drop.result in
    subst (λ (found : Option Account). StepsTo state (account_drop_of state c.args.number found) result)
    (sym c.in_ok-account.ensures.there)
    (refused state (account_drop_of state c.args.number (Some old)) rule result
    c.from_residual-in_err-check_drop.ensures.1
    (broken-changing state (drop_rules state.book c.args.number old)
    (without_thing kind.Account c.args.number state.book) 0 answer.AccountDrop rule c.in_err-check_drop.ensures))

pub returns : goal.returns
returns c =
    let state = c.args.present.now in
    subst (λ (found : Option Account). StepsTo state (account_drop_of state c.args.number found) c.changing.result)
    (sym c.in_ok-account.ensures.there)
    (past-changing state (drop_rules state.book c.args.number c.in_ok-account.account.now)
    (without_thing kind.Account c.args.number state.book) 0 answer.AccountDrop c.changing.result
    c.in_ok-check_drop.ensures (c.changing.ensures answer.AccountDrop refl))

pub changing-requires-clause-exact : goal.changing-requires-clause-exact
changing-requires-clause-exact c sound =
    account_gone c.args.present.now c.args.number c.in_ok-account.account.now sound c.in_ok-account.ensures.there
