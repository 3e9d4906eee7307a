-- The splits that a post gives, and what it comes to.
use Rattle.std.proofs.Common.{◌≡◌, ℕ, ◌+◌, List, [], ◌∷◌, ◌++◌, length, Some, None, Result, ap, subst, ◌∙◌, arith}
use Rattle.book_commodity.specs.Rules.{first_broken}
use Rattle.book_splits.specs.declared.transaction.Txn.{Txn}
use Rattle.book_undo.specs.Book.{with_thing}
use Rattle.book_undo.specs.declared.thing.Thing.TheVariants as thing
use Rattle.book_step.specs.Outcome.{Broken, StepsTo, changing}
use Rattle.book_step.specs.Posting.{new_split, new_splits, post_answer, post_of, post_rules}
use Rattle.book_step.specs.State.{State}
use Rattle.book_command.specs.declared.command.GivenSplit.{GivenSplit}
use Rattle.book_command.specs.declared.refusal.Refusal.{Refusal}
use Rattle.book_command.specs.declared.rule.Rule.{Rule}
use Rattle.book_step.specs.declared.step.Step.{Step}
use Rattle.book_step.proofs.OutcomeLemmas.{broken-changing, past-changing}

-- one split more draws the number behind those before
pub new_splits-push :
    (number : ℕ) (given : List GivenSplit) (split : GivenSplit)
    → new_splits number (given ++ split ∷ []) ≡ new_splits number given
    ++ new_split (number + length (new_splits number given)) split ∷ []
new_splits-push number [] split = ap (λ n. new_split n split ∷ []) (omega arith)
new_splits-push number (x ∷ given) split =
    ap (λ splits. new_split number x ∷ splits)
    (new_splits-push (number + 1) given split
    ∙ ap (λ n. new_splits (number + 1) given ++ new_split n split ∷ []) (omega arith))

-- a transaction that breaks a rule is refused
pub post-broken :
    (state : State) (transaction : Txn) (rule : Rule)
    → first_broken (post_rules state.book transaction) ≡ Some rule
    → post_of state transaction ≡ Broken rule
post-broken state transaction rule e =
    let book = with_thing state.next (thing.Txn transaction) state.book in
    broken-changing state (post_rules state.book transaction) book (1 + length transaction.splits)
    (post_answer book state.next transaction) rule e

-- one that breaks none is put into the book
pub post-changed :
    (state : State) (transaction : Txn) (drawn : ℕ) (result : Result Step Refusal)
    → first_broken (post_rules state.book transaction) ≡ None
    → drawn ≡ 1 + length transaction.splits
    → (let book = with_thing state.next (thing.Txn transaction) state.book in
    StepsTo state (changing state [] book drawn (post_answer book state.next transaction)) result)
    → StepsTo state (post_of state transaction) result
post-changed state transaction drawn result unbroken count h =
    let book = with_thing state.next (thing.Txn transaction) state.book in
    let whole = post_answer book state.next transaction in
    past-changing state (post_rules state.book transaction) book (1 + length transaction.splits) whole result unbroken
    (subst (λ (n : ℕ). StepsTo state (changing state [] book n whole) result) count h)
