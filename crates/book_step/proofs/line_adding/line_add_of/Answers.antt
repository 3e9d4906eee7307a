use Rattle.std.proofs.Common.{◌≡◌, ℕ, List, Some, None, ap, subst, ◌∙◌}
use Rattle.book_commodity.specs.Rules.{first_broken}
use Rattle.book_command.specs.declared.command.GivenOther.{GivenOther}
use Rattle.book_step.specs.LineAdding.{given_rules, line_add_of, line_transaction}
use Rattle.book_step.specs.State.{State}
use Rattle.book_step.proofs.LineAddingLemmas.{add_in, add-broken, add-changed, add-made}
use Rattle.book_step.proofs.LineAddingLemmas.{line_add-misgiven}
use Rattle.book_step.proofs.OutcomeLemmas.{refused}
use Rattle.book_step.proofs.line_adding.line_add_of.Goals as goal

pub returns-in_err-check_given : goal.returns-in_err-check_given
returns-in_err-check_given c =
    let state = c.args.present.now in
    let number = c.args.number in
    let line = c.args.line.now in
    let commodity = c.commodity_of-commodity.result in
    let is = c.commodity_of-commodity.ensures in
    let rule = c.in_err-check_given.field-0.0 in
    let broken = subst (λ (others : List GivenOther).
    first_broken (given_rules state.book.accounts number line commodity others) ≡ Some rule)
    c.as_slice.ensures c.in_err-check_given.ensures in
    refused state (line_add_of state number line c.args.others c.args.description) rule c.from_residual.result
    c.from_residual.ensures.1
    (line_add-misgiven state number line c.args.others c.args.description commodity rule is broken)

pub returns-in_err-check_post : goal.returns-in_err-check_post
returns-in_err-check_post c =
    let state = c.args.present.now in
    let number = c.args.number in
    let line = c.args.line.now in
    let others = c.args.others in
    let commodity = c.commodity_of-commodity.result in
    let transaction = c.in_ok-transaction.transaction in
    let rule = c.in_err-check_post.field-0.0 in
    let result = c.from_residual-in_err-check_post.result in
    let kept = subst (λ (os : List GivenOther).
    first_broken (given_rules state.book.accounts number line commodity os) ≡ None)
    c.as_slice.ensures c.in_ok-check_given.ensures in
    let made = c.in_ok-transaction.ensures
    ∙ ap (λ (n : ℕ). line_transaction n commodity line others c.args.description)
    (ap (λ (s : State). s.next) c.present.view_is) in
    add-made state number line others c.args.description commodity transaction result
    c.commodity_of-commodity.ensures made
    (refused state (add_in state number line others commodity transaction) rule result
    c.from_residual-in_err-check_post.ensures.1
    (add-broken state number line others commodity transaction rule kept c.in_err-check_post.ensures.rules))

pub returns : goal.returns
returns c =
    let state = c.args.present.now in
    let number = c.args.number in
    let line = c.args.line.now in
    let others = c.args.others in
    let commodity = c.commodity_of-commodity.result in
    let transaction = c.in_ok-transaction.transaction in
    let kept = subst (λ (os : List GivenOther).
    first_broken (given_rules state.book.accounts number line commodity os) ≡ None)
    c.as_slice.ensures c.in_ok-check_given.ensures in
    let made = c.in_ok-transaction.ensures
    ∙ ap (λ (n : ℕ). line_transaction n commodity line others c.args.description)
    (ap (λ (s : State). s.next) c.present.view_is) in
    add-made state number line others c.args.description commodity transaction c.post_for.result
    c.commodity_of-commodity.ensures made
    (add-changed state number line others commodity transaction c.post_for.result kept
    c.in_ok-check_post.ensures.rules c.post_for.ensures)
