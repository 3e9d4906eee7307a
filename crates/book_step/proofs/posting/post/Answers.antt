use Rattle.std.proofs.Common.{ℕ, ◌+◌, [], List, map, ap, subst, sym, ◌∙◌}
use Rattle.book_splits.specs.declared.split.Split.{Split}
use Rattle.book_splits.specs.declared.transaction.Txn.{Txn}
use Rattle.book_undo.specs.Book.{with_thing}
use Rattle.book_undo.specs.declared.thing.Thing.TheVariants as thing
use Rattle.book_step.specs.Outcome.{StepsTo, changing}
use Rattle.book_step.specs.Posting.{new_transaction, post_answer, post_of}
use Rattle.book_step.specs.State.{State}
use Rattle.book_command.specs.declared.answer.Answer.TheVariants as answer
use Rattle.book_step.proofs.OutcomeLemmas.{refused}
use Rattle.book_step.proofs.PostingLemmas.{post-broken, post-changed}
use Rattle.book_undo.specs.Exact.{IsExact}
use Rattle.book_undo.specs.declared.edit.Edit.{Put}
use Rattle.book_step.proofs.ExactLemmas.{new_put}
use Rattle.book_step.proofs.posting.post.Goals as goal

pub returns-in_err-check_post : goal.returns-in_err-check_post
returns-in_err-check_post c =
    let state = c.args.present.now in
    let transaction = c.in_ok-transaction.transaction in
    let rule = c.in_err-check_post.field-0.0 in
    let result = c.from_residual-in_err-check_post.result in
    let made = c.in_ok-transaction.ensures
    ∙ ap (λ (n : ℕ). new_transaction n c.args.day c.args.given)
    (ap (λ (s : State). s.next) c.present.view_is) in
    subst (λ (t : Txn). StepsTo state (post_of state t) result) made
    (refused state (post_of state transaction) rule result c.from_residual-in_err-check_post.ensures.1
    (post-broken state transaction rule c.in_err-check_post.ensures.rules))

pub returns : goal.returns
returns c =
    let state = c.args.present.now in
    let transaction = c.in_ok-transaction.transaction in
    let next = ap (λ (s : State). s.next) c.present.view_is in
    let made = c.in_ok-transaction.ensures ∙ ap (λ (n : ℕ). new_transaction n c.args.day c.args.given) next in
    let whole = post_answer (with_thing state.next (thing.Txn transaction) state.book) state.next transaction in
    let short = c.in_ok-answer.ensures
    ∙ ap (λ (n : ℕ). answer.Post n (map (λ split. split.id) c.as_slice.result.now) []) next
    ∙ ap (λ (splits : List Split). answer.Post state.next (map (λ split. split.id) splits) []) c.as_slice.ensures in
    let changed = subst (λ (n : ℕ). StepsTo state
    (changing state [] (with_thing n (thing.Txn transaction) state.book) (1 + c.len.result) whole) c.changing.result)
    next (c.changing.ensures whole (sym short)) in
    subst (λ (t : Txn). StepsTo state (post_of state t) c.changing.result) made
    (post-changed state transaction (1 + c.len.result) c.changing.result c.in_ok-check_post.ensures.rules
    (ap (λ (n : ℕ). 1 + n) c.len.ensures) changed)

pub changing-requires-clause-exact : goal.changing-requires-clause-exact
changing-requires-clause-exact c sound =
    let transaction = c.in_ok-transaction.transaction in
    subst (λ (n : ℕ). IsExact c.args.present.now.book (Put n (thing.Txn transaction)))
    (sym (ap (λ (state : State). state.next) c.present.view_is)) (new_put c.args.present.now transaction sound)
