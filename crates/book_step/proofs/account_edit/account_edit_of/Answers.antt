use Rattle.std.proofs.Common.{◌≡◌, [], None, Ok, Some, refl, subst, sym, ap, ◌∙◌}
use Rattle.book_commodity.specs.Rules.{first_broken}
use Rattle.book_accounts.specs.declared.account.Account.{Account}
use Rattle.book_undo.specs.Book.{with_thing}
use Rattle.book_undo.specs.declared.thing.Thing.TheVariants as thing
use Rattle.book_step.specs.Accounts.{account_edit_of, edit_rules, same_fields}
use Rattle.book_step.specs.Outcome.{StepsTo, changing}
use Rattle.book_command.specs.declared.answer.Answer.TheVariants as answer
use Rattle.book_step.proofs.AccountEditLemmas.{edit-broken, edit-changed, edit-left}
use Rattle.book_step.proofs.OutcomeLemmas.{refused}
use Rattle.book_undo.specs.Exact.{IsExact}
use Rattle.book_undo.specs.declared.edit.Edit.{Put}
use Rattle.book_step.proofs.ExactLemmas.{other_account}
use Rattle.book_step.proofs.account_edit.account_edit_of.Goals as goal

pub returns-in_err-check_edit : goal.returns-in_err-check_edit
returns-in_err-check_edit c =
    let state = c.args.present.now in
    let rule = c.in_err-check_edit.field-0.0 in
    let broken = subst (λ (new : Account). first_broken
    (edit_rules state.book c.args.number c.args.given.parent c.args.old.now new) ≡ Some rule)
    c.in_ok-new.ensures c.in_err-check_edit.ensures in
    refused state (account_edit_of state c.args.number c.args.given c.args.old.now) rule
    c.from_residual-in_err-check_edit.result c.from_residual-in_err-check_edit.ensures.1
    (edit-broken state c.args.number c.args.given c.args.old.now rule broken)

pub returns-then-is_same : goal.returns-then-is_same
returns-then-is_same c =
    let state = c.args.present.now in
    let kept = subst (λ (new : Account). first_broken
    (edit_rules state.book c.args.number c.args.given.parent c.args.old.now new) ≡ None) c.in_ok-new.ensures
    c.in_ok-check_edit.ensures in
    let same = ap (λ (new : Account). (same_fields c.args.old.now new).is) (sym c.in_ok-new.ensures)
    ∙ sym c.is_same.ensures ∙ c.if-is_same.true in
    edit-left state c.args.number c.args.given c.args.old.now (Ok c.leaving.result) kept same
    (c.leaving.ensures answer.AccountEdit refl)

pub returns : goal.returns
returns c =
    let state = c.args.present.now in
    let kept = subst (λ (new : Account). first_broken
    (edit_rules state.book c.args.number c.args.given.parent c.args.old.now new) ≡ None) c.in_ok-new.ensures
    c.in_ok-check_edit.ensures in
    let other = ap (λ (new : Account). (same_fields c.args.old.now new).is) (sym c.in_ok-new.ensures)
    ∙ sym c.is_same.ensures ∙ c.if-is_same.false in
    let changed = subst (λ (new : Account). StepsTo state
    (changing state [] (with_thing c.args.number (thing.Account new) state.book) 0 answer.AccountEdit)
    c.changing.result) c.in_ok-new.ensures (c.changing.ensures answer.AccountEdit refl) in
    edit-changed state c.args.number c.args.given c.args.old.now c.changing.result kept other changed

pub changing-requires-clause-exact : goal.changing-requires-clause-exact
changing-requires-clause-exact c sound =
    let state = c.args.present.now in
    let other = ap (λ (new : Account). (same_fields c.args.old.now new).is) (sym c.in_ok-new.ensures)
    ∙ sym c.is_same.ensures ∙ c.if-is_same.false in
    subst (λ (new : Account). IsExact state.book (Put c.args.number (thing.Account new))) (sym c.in_ok-new.ensures)
    (other_account state c.args.number c.args.given c.args.old.now sound c.requires other)
