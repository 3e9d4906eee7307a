-- What an edit of an account comes to, from what a check of its rules reports.
use Rattle.std.proofs.Common.{◌≡◌, ℕ, true, false, [], Some, None, Result}
use Rattle.book_commodity.specs.Rules.{first_broken}
use Rattle.book_accounts.specs.declared.account.Account.{Account}
use Rattle.book_undo.specs.Book.{with_thing}
use Rattle.book_undo.specs.declared.thing.Thing.TheVariants as thing
use Rattle.book_step.specs.Accounts.{account_edit_of, edit_rules, stays, with_given}
use Rattle.book_step.specs.Outcome.{Broken, StepsTo, changing, leaving}
use Rattle.book_step.specs.State.{State}
use Rattle.book_command.specs.declared.answer.Answer.TheVariants as answer
use Rattle.book_command.specs.declared.command.GivenAccount.{GivenAccount}
use Rattle.book_command.specs.declared.refusal.Refusal.{Refusal}
use Rattle.book_command.specs.declared.rule.Rule.{Rule}
use Rattle.book_step.specs.declared.step.Step.{Step}
use Rattle.book_step.proofs.OutcomeLemmas.{either-broken, either-changed, either-left}

-- a broken rule is what an edit comes to, whether or not the account stays as it is
pub edit-broken :
    (state : State) (number : ℕ) (given : GivenAccount) (old : Account) (rule : Rule)
    → first_broken (edit_rules state.book number given.parent old (with_given old given)) ≡ Some rule
    → account_edit_of state number given old ≡ Broken rule
edit-broken state number given old rule e =
    either-broken state (stays old given).is (edit_rules state.book number given.parent old (with_given old given))
    (with_thing number (thing.Account (with_given old given)) state.book) 0 answer.AccountEdit answer.AccountEdit rule e

-- an account that keeps its rules and stays as it is leaves the book
pub edit-left :
    (state : State) (number : ℕ) (given : GivenAccount) (old : Account) (result : Result Step Refusal)
    → first_broken (edit_rules state.book number given.parent old (with_given old given)) ≡ None
    → (stays old given).is ≡ true
    → StepsTo state (leaving state [] answer.AccountEdit) result
    → StepsTo state (account_edit_of state number given old) result
edit-left state number given old result unbroken same h =
    either-left state (stays old given).is (edit_rules state.book number given.parent old (with_given old given))
    (with_thing number (thing.Account (with_given old given)) state.book) 0 answer.AccountEdit answer.AccountEdit
    result unbroken same h

-- one that becomes another account changes it
pub edit-changed :
    (state : State) (number : ℕ) (given : GivenAccount) (old : Account) (result : Result Step Refusal)
    → first_broken (edit_rules state.book number given.parent old (with_given old given)) ≡ None
    → (stays old given).is ≡ false
    → StepsTo state (changing state []
    (with_thing number (thing.Account (with_given old given)) state.book) 0 answer.AccountEdit) result
    → StepsTo state (account_edit_of state number given old) result
edit-changed state number given old result unbroken other h =
    either-changed state (stays old given).is (edit_rules state.book number given.parent old (with_given old given))
    (with_thing number (thing.Account (with_given old given)) state.book) 0 answer.AccountEdit answer.AccountEdit
    result unbroken other h
