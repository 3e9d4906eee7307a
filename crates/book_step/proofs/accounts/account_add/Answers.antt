use Rattle.std.proofs.Common.{ℕ, refl, ap, subst, sym}
use Rattle.book_undo.specs.Book.{with_thing}
use Rattle.book_undo.specs.declared.thing.Thing.TheVariants as thing
use Rattle.book_step.specs.Accounts.{add_rules}
use Rattle.book_step.specs.Outcome.{changing}
use Rattle.book_step.specs.State.{State}
use Rattle.book_command.specs.declared.answer.Answer.TheVariants as answer
use Rattle.book_step.proofs.OutcomeLemmas.{broken-changing, past-drawing, refused}
use Rattle.book_undo.specs.Exact.{IsExact}
use Rattle.book_undo.specs.declared.edit.Edit.{Put}
use Rattle.book_step.proofs.ExactLemmas.{new_account}
use Rattle.book_step.proofs.accounts.account_add.Goals as goal

pub returns-in_err-check_new : goal.returns-in_err-check_new
returns-in_err-check_new c =
    let state = c.args.present.now in
    let rules = add_rules state.book c.args.account in
    let later = with_thing state.next (thing.Account c.args.account) state.book in
    let rule = c.in_err-check_new.field-0.0 in
    refused state (changing state rules later 1 (answer.AccountAdd state.next)) rule c.from_residual.result
    c.from_residual.ensures.1
    (broken-changing state rules later 1 (answer.AccountAdd state.next) rule c.in_err-check_new.ensures)

pub returns : goal.returns
returns c =
    past-drawing c.args.present.now c.present.inside.next (add_rules c.args.present.now.book c.args.account)
    (λ n. with_thing n (thing.Account c.args.account) c.args.present.now.book) 1 (λ n. answer.AccountAdd n)
    c.changing.result (ap (λ (state : State). state.next) c.present.view_is) c.in_ok-check_new.ensures
    (c.changing.ensures (answer.AccountAdd c.present.inside.next) refl)

pub changing-requires-clause-exact : goal.changing-requires-clause-exact
changing-requires-clause-exact c sound =
    subst (λ (n : ℕ). IsExact c.args.present.now.book (Put n (thing.Account c.args.account)))
    (sym (ap (λ (state : State). state.next) c.present.view_is)) (new_account c.args.present.now c.args.account sound)
