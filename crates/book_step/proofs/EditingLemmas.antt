-- What an edit of a transaction comes to, from what the checks of its rules report.
use Rattle.std.proofs.Common.{◌≡◌, ℕ, ◌+◌, ◌-◌, ℤ, Bool, true, false, if◌then◌else◌, List, [], ◌∷◌, length}
use Rattle.std.proofs.Common.{Option, Some, None, Result, subst, ◌∙◌, arith}
use Rattle.book_commodity.specs.Rules.{first_broken}
use Rattle.book_commodity.specs.Table.{value_of, with_entry}
use Rattle.book_commodity.proofs.RuleLemmas.{first-here, first-past}
use Rattle.book_splits.specs.Balance.{splits_of}
use Rattle.book_splits.specs.SplitCount.{splits_in}
use Rattle.book_splits.specs.declared.transaction.Txn.{Txn}
use Rattle.book_splits.proofs.CountLemmas.{splits-with, splits-within}
use Rattle.book_undo.specs.Book.{Book}
use Rattle.book_step.specs.Editing.{book_with, drawn_by, edit_answer, edit_of, edit_rules, edited_transaction}
use Rattle.book_step.specs.Editing.{number_rules}
use Rattle.book_step.specs.Editing.{reconciled, too_many_after}
use Rattle.book_step.specs.Outcome.{Broken, Outcome, StepsTo, changing, leaving}
use Rattle.book_step.specs.Posting.{broken_by}
use Rattle.book_step.specs.SameTransaction.{same_transaction}
use Rattle.book_step.specs.Soundness.{IsSoundBook}
use Rattle.book_step.specs.State.{State}
use Rattle.book_command.specs.declared.answer.Answer.{Answer}
use Rattle.book_command.specs.declared.command.GivenTxn.{GivenTxn}
use Rattle.book_command.specs.declared.refusal.Refusal.{Refusal}
use Rattle.book_command.specs.declared.rule.Rule.{Rule}
use Rattle.book_step.specs.declared.step.Step.{Step}
use Rattle.book_step.proofs.OutcomeLemmas.{either-broken, either-changed, either-left}

-- ---- the count of splits

-- the splits after an edit are the others and those of the new transaction
pub splits-after :
    (book : Book) (number : ℕ) (new : Txn) → IsSoundBook book
    → (length (splits_of book.transactions) - splits_in (value_of number book.transactions)) + length new.splits
    ≡ length (splits_of (with_entry number new book.transactions))
splits-after book number new is =
    let all = splits-with number new book.transactions is.transactions.rise in
    let old = splits-within number book.transactions in
    omega (arith, all, old)

-- ---- an edit that leaves the transaction, or changes it

-- The rules of an edit, but for those of the numbers given.
abbrev pub new_rules : Book → ℕ → Bool → Txn → Txn → List (Option Rule)
new_rules book number force old new =
    broken_by book new ∷ reconciled force old.splits new.splits ∷ too_many_after book number new ∷ []

-- What an edit comes to that gives this transaction and draws so many numbers.
abbrev pub edit_to : State → ℕ → Bool → GivenTxn → Txn → Txn → ℕ → Outcome
edit_to state number force given old new drawn =
    let rules = edit_rules state.book number force given old new in
    let book = book_with state.book number old new in
    if (same_transaction new old).is then leaving state rules (edit_answer state.book number new)
    else changing state rules book drawn (edit_answer book number new)

-- that is what the edit comes to, where the transaction and the numbers drawn are those of the edit
pub edit-made :
    (state : State) (number : ℕ) (force : Bool) (day : ℤ) (given : GivenTxn) (old new : Txn) (drawn : ℕ)
    (result : Result Step Refusal)
    → new ≡ edited_transaction old state.next day given
    → drawn ≡ drawn_by old.splits given.splits
    → StepsTo state (edit_to state number force given old new drawn) result
    → StepsTo state (edit_of state number force day given old) result
edit-made state number force day given old new drawn result made count h =
    let To : Txn → ℕ → Type 0 = λ t n. StepsTo state (edit_to state number force given old t n) result in
    subst (λ (t : Txn). To t (drawn_by old.splits given.splits)) made (subst (λ (n : ℕ). To new n) count h)

-- a number that may not be given is what an edit comes to
pub edit-misgiven :
    (state : State) (number : ℕ) (force : Bool) (day : ℤ) (given : GivenTxn) (old : Txn) (rule : Rule)
    → first_broken (number_rules old.splits [] given.splits) ≡ Some rule
    → edit_of state number force day given old ≡ Broken rule
edit-misgiven state number force day given old rule e =
    let new : Txn = edited_transaction old state.next day given in
    let book : Book = book_with state.book number old new in
    let left : Answer = edit_answer state.book number new in
    let changed : Answer = edit_answer book number new in
    either-broken state (same_transaction new old).is (edit_rules state.book number force given old new) book
    (drawn_by old.splits given.splits) left changed rule
    (first-here (number_rules old.splits [] given.splits) (new_rules state.book number force old new) rule e)

-- and so is a rule that the new transaction breaks
pub edit-broken :
    (state : State) (number : ℕ) (force : Bool) (given : GivenTxn) (old new : Txn) (drawn : ℕ) (rule : Rule)
    → first_broken (number_rules old.splits [] given.splits) ≡ None
    → first_broken (new_rules state.book number force old new) ≡ Some rule
    → edit_to state number force given old new drawn ≡ Broken rule
edit-broken state number force given old new drawn rule numbers e =
    let book : Book = book_with state.book number old new in
    let left : Answer = edit_answer state.book number new in
    let changed : Answer = edit_answer book number new in
    either-broken state (same_transaction new old).is (edit_rules state.book number force given old new) book
    drawn left changed rule
    (first-past (number_rules old.splits [] given.splits) (new_rules state.book number force old new) numbers ∙ e)

-- an edit that keeps its rules and gives the same transaction leaves the book
pub edit-left :
    (state : State) (number : ℕ) (force : Bool) (given : GivenTxn) (old new : Txn) (drawn : ℕ)
    (result : Result Step Refusal)
    → first_broken (number_rules old.splits [] given.splits) ≡ None
    → first_broken (new_rules state.book number force old new) ≡ None
    → (same_transaction new old).is ≡ true
    → StepsTo state (leaving state [] (edit_answer state.book number new)) result
    → StepsTo state (edit_to state number force given old new drawn) result
edit-left state number force given old new drawn result numbers kept same h =
    let book : Book = book_with state.book number old new in
    let left : Answer = edit_answer state.book number new in
    let changed : Answer = edit_answer book number new in
    either-left state (same_transaction new old).is (edit_rules state.book number force given old new) book
    drawn left changed result
    (first-past (number_rules old.splits [] given.splits) (new_rules state.book number force old new) numbers ∙ kept)
    same h

-- one that gives another transaction changes it
pub edit-changed :
    (state : State) (number : ℕ) (force : Bool) (given : GivenTxn) (old new : Txn) (drawn : ℕ)
    (result : Result Step Refusal)
    → first_broken (number_rules old.splits [] given.splits) ≡ None
    → first_broken (new_rules state.book number force old new) ≡ None
    → (same_transaction new old).is ≡ false
    → (let book = book_with state.book number old new in
    StepsTo state (changing state [] book drawn (edit_answer book number new)) result)
    → StepsTo state (edit_to state number force given old new drawn) result
edit-changed state number force given old new drawn result numbers kept other h =
    let book : Book = book_with state.book number old new in
    let left : Answer = edit_answer state.book number new in
    let changed : Answer = edit_answer book number new in
    either-changed state (same_transaction new old).is (edit_rules state.book number force given old new) book
    drawn left changed result
    (first-past (number_rules old.splits [] given.splits) (new_rules state.book number force old new) numbers ∙ kept)
    other h
