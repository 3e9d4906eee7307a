use Rattle.std.proofs.Common.{◌≡◌, ◌==◌, true, false, Ok, Some, refl, arith}
use Rattle.std.proofs.lemmas.Bool.Decides.{nat_tests}
use Rattle.book_undo.specs.Book.{with_thing}
use Rattle.book_undo.specs.declared.thing.Thing.TheVariants as thing
use Rattle.book_command.specs.declared.answer.Answer.TheVariants as answer
use Rattle.book_step.specs.Bindings.{account_rules, bind_at, binding_to}
use Rattle.book_step.proofs.ExactBank.{other_binding}
use Rattle.book_step.proofs.OutcomeLemmas.{either-broken, either-changed, either-left, refused}
use Rattle.book_step.proofs.bindings.bind_again.Goals as goal

pub returns-in_err-check_account : goal.returns-in_err-check_account
returns-in_err-check_account c =
    let state = c.args.present.now in
    let rule = c.in_err-check_account.field-0.0 in
    let old = binding_to c.args.binding.text c.args.account in
    refused state (bind_at state c.args.binding (Some (c.args.number, old))) rule c.from_residual.result
    c.from_residual.ensures.1
    (either-broken state (c.args.account == c.args.binding.account)
    (account_rules state.book.accounts c.args.binding.account)
    (with_thing c.args.number (thing.Binding c.args.binding) state.book) 0 answer.Bind answer.Bind rule
    c.in_err-check_account.ensures)

pub returns-then-account-binding : goal.returns-then-account-binding
returns-then-account-binding c =
    let state = c.args.present.now in
    let test = c.if-account-binding.true in
    let same : (c.args.account == c.args.binding.account) ≡ true = grind (arith, nat_tests, test) in
    either-left state (c.args.account == c.args.binding.account)
    (account_rules state.book.accounts c.args.binding.account)
    (with_thing c.args.number (thing.Binding c.args.binding) state.book) 0 answer.Bind answer.Bind
    (Ok c.leaving.result) c.in_ok-check_account.ensures same (c.leaving.ensures answer.Bind refl)

pub changing-requires-clause-exact : goal.changing-requires-clause-exact
changing-requires-clause-exact c sound =
    let test = c.if-account-binding.false in
    let other : (c.args.account == c.args.binding.account) ≡ false = grind (arith, nat_tests, test) in
    other_binding c.args.present.now c.args.number (binding_to c.args.binding.text c.args.account) c.args.binding sound
    c.requires other

pub returns : goal.returns
returns c =
    let state = c.args.present.now in
    let test = c.if-account-binding.false in
    let other : (c.args.account == c.args.binding.account) ≡ false = grind (arith, nat_tests, test) in
    either-changed state (c.args.account == c.args.binding.account)
    (account_rules state.book.accounts c.args.binding.account)
    (with_thing c.args.number (thing.Binding c.args.binding) state.book) 0 answer.Bind answer.Bind c.changing.result
    c.in_ok-check_account.ensures other (c.changing.ensures answer.Bind refl)
