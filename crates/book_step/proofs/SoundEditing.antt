-- The edit and the deletion of a transaction lead from sound states to sound states: what stands in the book then keeps
-- the rules of transactions, since it keeps those of the command.
use Rattle.std.proofs.Common.{◌≡◌, ℕ, ◌+◌, ◌<◌, ℤ, Bool, [], ◌∷◌, Option, Some, None, is_none, true, refl, sym, ap, ◌∙◌}
use Rattle.std.proofs.Common.{arith}
use Rattle.std.proofs.lemmas.Bool.Decides.{nat_tests}
use Rattle.book_commodity.specs.Rules.{AllKept, first_broken}
use Rattle.book_commodity.specs.Table.{value_of, with_entry, without_entry}
use Rattle.book_commodity.proofs.DrawnLemmas.{drawn_below}
use Rattle.book_commodity.proofs.ListLemmas.{mapped_none}
use Rattle.book_commodity.proofs.RuleLemmas.{kept_back, kept_front, not-broken}
use Rattle.book_splits.specs.Check.{txn_rules}
use Rattle.book_splits.specs.declared.split.Split.{Split}
use Rattle.book_splits.specs.declared.transaction.Txn.{Txn}
use Rattle.book_splits.specs.TransactionRules.{numbers_of}
use Rattle.book_splits.proofs.ReplacedLemmas.{all_of_one}
use Rattle.book_undo.specs.Book.{Book}
use Rattle.book_sound.specs.Dismissal.{loses_split}
use Rattle.book_sound.proofs.BookFrames.{transaction_replaced, transaction_taken}
use Rattle.book_sound.proofs.DrawnFrames.{dismissed_lines_drawn, drawn_later, transaction_drawn}
use Rattle.book_sound.proofs.DrawnFrames.{transaction_left_drawn}
use Rattle.book_sound.proofs.TransactionFrames.{IsFit}
use Rattle.book_sound.proofs.VoidFrames.{marks_unvoided}
use Rattle.book_command.specs.Lifted.{of_txn_rule}
use Rattle.book_command.specs.declared.answer.Answer.{Answer}
use Rattle.book_command.specs.declared.answer.Answer.TheVariants as answer
use Rattle.book_command.specs.declared.command.GivenTxn.{GivenTxn}
use Rattle.book_step.specs.Editing.{book_with, book_without, drop_at, drop_transaction, drawn_by, edit_answer, edit_at}
use Rattle.book_step.specs.Editing.{edit_of, edit_rules}
use Rattle.book_step.specs.Editing.{edit_transaction, edited_transaction, number_rules, reconciled, too_many_after}
use Rattle.book_step.specs.Outcome.{Done}
use Rattle.book_step.specs.Posting.{broken_by}
use Rattle.book_step.specs.SameTransaction.{same_transaction}
use Rattle.book_step.specs.Soundness.{IsSoundBook, AreDrawn, IsSound}
use Rattle.book_step.specs.State.{State}
use Rattle.book_step.specs.VoidRules.{voided_transaction}
use Rattle.book_step.proofs.EditedSplits.{edited_below, edited_from, edited_once, edited_right}
use Rattle.book_step.proofs.SoundOutcome.{changing_done, either_sound, sound_after, unless_done}
use Rattle.book_step.proofs.VoidRuleLemmas.{unvoided_of}

-- What an edit keeps.
record KeepsEdit (book : Book) (number : ℕ) (given : GivenTxn) (old new : Txn) : Type 0 where
  pub numbers : AllKept (number_rules old.splits [] given.splits)
  pub check : broken_by book new ≡ None
  pub few_splits : too_many_after book number new ≡ None

edit_keeps :
    (book : Book) (number : ℕ) (force : Bool) (given : GivenTxn) (old new : Txn)
    → AllKept (edit_rules book number force given old new) → KeepsEdit book number given old new
edit_keeps book number force given old new kept =
    let rest = broken_by book new ∷ reconciled force old.splits new.splits ∷ too_many_after book number new ∷ [] in
    let others = kept_back (number_rules old.splits [] given.splits) rest kept in
    record {
      numbers = kept_front (number_rules old.splits [] given.splits) rest kept;
      check = others.0;
      few_splits = others.1.1.0;
    }

replaces :
    (book : Book) (number next : ℕ) (day : ℤ) (given : GivenTxn) (old : Txn)
    → value_of number book.transactions ≡ Some old → is_none old.voided ≡ true → AreDrawn book next
    → IsSoundBook book
    → KeepsEdit book number given old (edited_transaction old next day given)
    → IsFit book.commodities book.accounts book.reconciliations next (numbers_of old.splits)
    (edited_transaction old next day given)
replaces book number next day given old there unvoided are is keeps =
    let new = edited_transaction old next day given in
    let was = is.transactions.keep.each number old there in
    let below = all_of_one (λ (split : Split). split.id < next) number old book.transactions there are.splits in
    record {
      check = ap is_none
          (mapped_none of_txn_rule (first_broken (txn_rules book.commodities book.accounts new)) keeps.check);
      once = edited_once next next old.splits [] given.splits below (omega arith) keeps.numbers;
      from = edited_from next next old.splits given.splits (omega arith);
      marks = edited_right book.reconciliations next old.splits given.splits
          (sym (marks_unvoided book.reconciliations old.voided old.splits unvoided) ∙ was.1.1.1.0);
      unvoided = refl;
    }

edited_book :
    (book : Book) (number next : ℕ) (force : Bool) (day : ℤ) (given : GivenTxn) (old : Txn)
    → value_of number book.transactions ≡ Some old → is_none old.voided ≡ true → AreDrawn book next
    → AllKept (edit_rules book number force given old (edited_transaction old next day given)) → IsSoundBook book
    → IsSoundBook (book_with book number old (edited_transaction old next day given))
edited_book book number next force day given old there unvoided are kept is =
    let new = edited_transaction old next day given in
    let keeps = edit_keeps book number force given old new kept in
    let few = not-broken _ _ keeps.few_splits in
    transaction_replaced book number next old new there are
    (replaces book number next day given old there unvoided are is keeps) (grind (arith, nat_tests, few)) is

edit_of-sound :
    (state : State) (n : ℕ) (force : Bool) (day : ℤ) (given : GivenTxn) (old : Txn) (new : State) (answered : Answer)
    → value_of n state.book.transactions ≡ Some old → is_none old.voided ≡ true → IsSound state
    → edit_of state n force day given old ≡ Done new answered
    → IsSound new
edit_of-sound state n force day given old new answered there unvoided is e =
    let book = state.book in
    let transaction = edited_transaction old state.next day given in
    let later = book_with book n old transaction in
    let drawn = drawn_by old.splits given.splits in
    let rules = edit_rules book n force given old transaction in
    let below = all_of_one (λ (split : Split). split.id < state.next) n old book.transactions there is.drawn.splits in
    let own = drawn_below n state.next old book.transactions is.drawn.transactions there in
    let numbered = transaction_drawn book n (state.next + drawn) transaction (omega (arith, own))
    (edited_below state.next state.next (state.next + drawn) old.splits given.splits below (omega arith) (omega arith))
    (drawn_later book state.next (state.next + drawn) (omega arith) is.drawn) in
    either_sound (same_transaction transaction old).is state new rules later drawn
    (edit_answer book n transaction) (edit_answer later n transaction) answered is
    (λ change.
    sound_after state rules later drawn new change
    (edited_book book n state.next force day given old there unvoided is.drawn change.kept is.book)
    (dismissed_lines_drawn (record book { transactions = with_entry n transaction book.transactions })
    (loses_split old.splits transaction.splits) (state.next + drawn) numbered)) e

edit_at-sound :
    (state : State) (n : ℕ) (force : Bool) (day : ℤ) (given : GivenTxn) (found : Option Txn) (new : State)
    (answered : Answer)
    → value_of n state.book.transactions ≡ found → IsSound state
    → edit_at state n force day given found ≡ Done new answered
    → IsSound new
edit_at-sound state n force day given None new answered there is e = absurd cc
edit_at-sound state n force day given (Some old) new answered there is e =
    let done = unless_done (voided_transaction n old) (edit_of state n force day given old) new answered e in
    edit_of-sound state n force day given old new answered there (unvoided_of n old done.0) is done.1

pub edit_transaction-sound :
    (state : State) (n : ℕ) (force : Bool) (day : ℤ) (given : GivenTxn) (new : State) (answered : Answer)
    → IsSound state → edit_transaction state n force day given ≡ Done new answered
    → IsSound new
edit_transaction-sound state n force day given new answered is e =
    edit_at-sound state n force day given (value_of n state.book.transactions) new answered refl is e

drop_at-sound :
    (state : State) (n : ℕ) (force : Bool) (found : Option Txn) (new : State) (answered : Answer)
    → value_of n state.book.transactions ≡ found → IsSound state → drop_at state n force found ≡ Done new answered
    → IsSound new
drop_at-sound state n force None new answered there is e = absurd cc
drop_at-sound state n force (Some old) new answered there is e =
    let book = state.book in
    let left = book_without book n old in
    let rules = voided_transaction n old ∷ reconciled force old.splits [] ∷ [] in
    let change = changing_done state rules left 0 answer.Drop new answered e in
    let later = drawn_later book state.next (state.next + 0) (omega arith) is.drawn in
    sound_after state rules left 0 new change (transaction_taken book n old there is.book)
    (dismissed_lines_drawn (record book { transactions = without_entry n book.transactions })
    (loses_split old.splits []) (state.next + 0) (transaction_left_drawn book n (state.next + 0) later))

pub drop_transaction-sound :
    (state : State) (n : ℕ) (force : Bool) (new : State) (answered : Answer) → IsSound state
    → drop_transaction state n force ≡ Done new answered
    → IsSound new
drop_transaction-sound state n force new answered is e =
    drop_at-sound state n force (value_of n state.book.transactions) new answered refl is e
