-- A post leads from sound states to sound states: the transaction keeps the rules of transactions, since it keeps those
-- of the command.
use Rattle.std.proofs.Common.{◌≡◌, ℕ, ◌+◌, ◌<◌, ◌≤◌, ℤ, All, true, List, [], ◌∷◌, length, None, is_none, refl, ap}
use Rattle.std.proofs.Common.{arith}
use Rattle.std.specs.List.{list_all}
use Rattle.std.proofs.lemmas.Bool.{not_from_false, and_from}
use Rattle.std.proofs.lemmas.Bool.Decides.{nat_tests}
use Rattle.std.proofs.lemmas.List.Elements.{All-nil, All-cons}
use Rattle.book_commodity.specs.Rules.{AllKept, first_broken}
use Rattle.book_commodity.specs.Table.{with_entry}
use Rattle.book_commodity.proofs.ListLemmas.{mapped_none, not_greater}
use Rattle.book_commodity.proofs.RuleLemmas.{not-broken}
use Rattle.book_splits.specs.Check.{txn_rules}
use Rattle.book_splits.specs.TransactionRules.{are_once, is_unmarked, numbers_of}
use Rattle.book_splits.specs.declared.split.Split.{Split}
use Rattle.book_undo.specs.Book.{Book, with_thing}
use Rattle.book_command.specs.Lifted.{of_txn_rule}
use Rattle.book_command.specs.declared.command.GivenSplit.{GivenSplit}
use Rattle.book_command.specs.declared.command.GivenTxn.{GivenTxn}
use Rattle.book_step.specs.Posting.{new_splits, new_transaction, post_rules, post, post_answer, broken_by}
use Rattle.book_step.specs.Posting.{too_many_splits, too_many_transactions}
use Rattle.book_step.specs.Soundness.{IsSoundBook, AreDrawn, IsSound}
use Rattle.book_sound.proofs.BookFrames.{transaction_put}
use Rattle.book_sound.proofs.DrawnFrames.{drawn_later, transaction_drawn}
use Rattle.book_sound.proofs.MarkLemmas.{unmarked_are_right}
use Rattle.book_sound.proofs.TransactionFrames.{drawn_from}
use Rattle.book_undo.specs.declared.thing.Thing.TheVariants as thing
use Rattle.book_command.specs.declared.answer.Answer.{Answer}
use Rattle.book_step.specs.Outcome.{Done}
use Rattle.book_step.specs.State.{State}
use Rattle.book_step.proofs.SoundOutcome.{changing_done, sound_after}
use Rattle.book_splits.specs.declared.transaction.Txn.{Txn}

-- What a post keeps.
record KeepsPost (book : Book) (new : Txn) : Type 0 where
  pub check : broken_by book new ≡ None
  pub few : too_many_transactions book ≡ None
  pub few_splits : too_many_splits book new ≡ None

post_keeps : (book : Book) (new : Txn) → AllKept (post_rules book new) → KeepsPost book new
post_keeps book new kept = record { check = kept.0; few = kept.1.0; few_splits = kept.1.1.0 }

-- the splits of a post draw their numbers from one on,
pub new_above :
    (below number : ℕ) (given : List GivenSplit) → below < number
    → All (λ (m : ℕ). below < m) (numbers_of (new_splits number given))
new_above below number [] lt = All-nil (λ (m : ℕ). below < m)
new_above below number (first ∷ more) lt =
    All-cons (λ (m : ℕ). below < m) number (numbers_of (new_splits (number + 1) more)) lt
    (new_above below (number + 1) more (omega (arith, lt)))

-- below the next one,
pub new_below :
    (number next : ℕ) (given : List GivenSplit) → number + length (new_splits number given) ≤ next
    → All (λ (split : Split). split.id < next) (new_splits number given)
new_below number next [] le = All-nil (λ (split : Split). split.id < next)
new_below number next (first ∷ more) le =
    All-cons (λ (split : Split). split.id < next) _ (new_splits (number + 1) more) (omega (arith, le))
    (new_below (number + 1) next more (omega (arith, le)))

-- each another one,
pub new_once : (number : ℕ) (given : List GivenSplit) → are_once (numbers_of (new_splits number given)) ≡ true
new_once number [] = refl
new_once number (first ∷ more) =
    let apart = not_greater number (numbers_of (new_splits (number + 1) more))
    (new_above number (number + 1) more (omega arith)) in
    and_from _ _ (not_from_false _ apart) (new_once (number + 1) more)

-- and are new
pub new_marks :
    (number : ℕ) (given : List GivenSplit) → list_all is_unmarked (new_splits number given) ≡ true
new_marks number [] = refl
new_marks number (first ∷ more) = new_marks (number + 1) more

pub posted :
    (book : Book) (n : ℕ) (day : ℤ) (given : GivenTxn) → AreDrawn book n
    → AllKept (post_rules book (new_transaction n day given))
    → IsSoundBook book
    → IsSoundBook (record book { transactions = with_entry n (new_transaction n day given) book.transactions })
posted book n day given are kept is =
    let new = new_transaction n day given in
    let keeps = post_keeps book new kept in
    let few = not-broken _ _ keeps.few in
    let splits = not-broken _ _ keeps.few_splits in
    transaction_put book n new are
    (record {
      check = ap is_none
          (mapped_none of_txn_rule (first_broken (txn_rules book.commodities book.accounts new)) keeps.check);
      once = new_once (n + 1) given.splits;
      from = drawn_from n (numbers_of new.splits) (new_above n (n + 1) given.splits (omega arith));
      marks = unmarked_are_right book.reconciliations new.splits (new_marks (n + 1) given.splits);
      unvoided = refl;
    })
    (grind (arith, nat_tests, few)) (grind (arith, nat_tests, splits)) is

pub post-sound :
    (state : State) (day : ℤ) (given : GivenTxn) (new : State) (answered : Answer) → IsSound state
    → post state day given ≡ Done new answered
    → IsSound new
post-sound state day given new answered is e =
    let book = state.book in
    let transaction = new_transaction state.next day given in
    let new_book = with_thing state.next (thing.Txn transaction) book in
    let rules = post_rules book transaction in
    let drawn = 1 + length transaction.splits in
    let reply = post_answer new_book state.next transaction in
    let change = changing_done state rules new_book drawn reply new answered e in
    sound_after state rules new_book drawn new change (posted book state.next day given is.drawn change.kept is.book)
    (transaction_drawn book state.next (state.next + drawn) transaction (omega arith)
    (new_below (state.next + 1) (state.next + drawn) given.splits (omega arith))
    (drawn_later book state.next (state.next + drawn) (omega arith) is.drawn))
