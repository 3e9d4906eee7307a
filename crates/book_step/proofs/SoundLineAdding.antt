-- The command on a line leads from sound states to sound states: its transaction keeps the rules of transactions, and
-- the line fits its first split, which no other line has.
use Rattle.std.proofs.Common.{◌≡◌, ℕ, ◌+◌, ◌<◌, ◌≤◌, true, Bool, All, cond, List, ◌++◌, length, map, Option, Some}
use Rattle.std.proofs.Common.{None, is_none, refl, ap, ◌∙◌, eq-eqb, arith}
use Rattle.std.proofs.lemmas.Bool.{and_from, not-true, not_from_false}
use Rattle.std.proofs.lemmas.Bool.Decides.{nat_tests}
use Rattle.std.proofs.lemmas.List.Elements.{All-cons}
use Rattle.book_commodity.specs.Rules.{AllKept, first_broken}
use Rattle.book_commodity.specs.Table.{value_of, with_entry}
use Rattle.book_commodity.proofs.DrawnLemmas.{drawn_below, value_here}
use Rattle.book_commodity.proofs.ListLemmas.{mapped_none, not_greater}
use Rattle.book_commodity.proofs.RuleLemmas.{kept_back, not-broken}
use Rattle.book_splits.specs.Check.{txn_rules}
use Rattle.book_splits.specs.TransactionRules.{are_once, numbers_of}
use Rattle.book_splits.specs.declared.split.Split.{Split}
use Rattle.book_statement.specs.declared.line.Line.{Line}
use Rattle.book_undo.specs.Book.{Book}
use Rattle.book_sound.specs.LineRules.{split_among}
use Rattle.book_sound.proofs.BookFrames.{transaction_put}
use Rattle.book_sound.proofs.DrawnChanges.{line_drawn}
use Rattle.book_sound.proofs.DrawnFrames.{drawn_later, transaction_drawn}
use Rattle.book_sound.proofs.MarkLemmas.{unmarked_are_right}
use Rattle.book_sound.proofs.SplitFrames.{found_among, split_of_one}
use Rattle.book_sound.proofs.TransactionFrames.{drawn_from}
use Rattle.book_command.specs.Lifted.{of_txn_rule}
use Rattle.book_command.specs.declared.answer.Answer.{Answer}
use Rattle.book_command.specs.declared.command.GivenOther.{GivenOther}
use Rattle.book_step.specs.LineAdding.{book_matched, commodity_of, given_rules, given_split, line_add, line_add_at}
use Rattle.book_step.specs.LineAdding.{line_add_of, line_splits, line_transaction, matched_answer, matched_with}
use Rattle.book_step.specs.LineAdding.{own_split}
use Rattle.book_step.specs.Outcome.{Done}
use Rattle.book_step.specs.Posting.{new_splits, post_rules}
use Rattle.book_step.specs.Soundness.{IsSoundBook, AreDrawn, IsSound}
use Rattle.book_step.specs.State.{State}
use Rattle.book_step.proofs.LineLemmas.{Fits, matched-sound, not_matched_yet}
use Rattle.book_step.proofs.SoundOutcome.{changing_done, sound_after}
use Rattle.book_step.proofs.SoundPosting.{new_above, new_below, new_marks, new_once}

-- ---- the splits of the transaction: they draw their numbers from one on,

splits_above :
    (below number : ℕ) (line : Line) (others : List GivenOther) → below < number
    → All (λ (m : ℕ). below < m) (numbers_of (line_splits number line others))
splits_above below number line others lt =
    let given = map given_split others in
    All-cons (λ (m : ℕ). below < m) number (numbers_of (new_splits (number + 1) given)) lt
    (new_above below (number + 1) given (omega (arith, lt)))

-- below the next one,
splits_below :
    (number next : ℕ) (line : Line) (others : List GivenOther) → number + length (line_splits number line others) ≤ next
    → All (λ (split : Split). split.id < next) (line_splits number line others)
splits_below number next line others le =
    let given = map given_split others in
    All-cons (λ (split : Split). split.id < next) (own_split number line) (new_splits (number + 1) given)
    (omega (arith, le)) (new_below (number + 1) next given (omega (arith, le)))

-- each another one
splits_once :
    (number : ℕ) (line : Line) (others : List GivenOther)
    → are_once (numbers_of (line_splits number line others)) ≡ true
splits_once number line others =
    let given = map given_split others in
    let apart = not_greater number (numbers_of (new_splits (number + 1) given))
    (new_above number (number + 1) given (omega arith)) in
    and_from _ _ (not_from_false _ apart) (new_once (number + 1) given)

-- ---- the book with the transaction

line_posted :
    (book : Book) (n commodity : ℕ) (line : Line) (others : List GivenOther) (description : Option (List ℕ))
    → AreDrawn book n → AllKept (post_rules book (line_transaction n commodity line others description))
    → IsSoundBook book
    → IsSoundBook (record book {
      transactions = with_entry n (line_transaction n commodity line others description) book.transactions;
    })
line_posted book n commodity line others description are kept is =
    let new = line_transaction n commodity line others description in
    let few = not-broken _ _ kept.1.0 in
    let splits = not-broken _ _ kept.1.1.0 in
    let given = map given_split others in
    transaction_put book n new are
    (record {
      check = ap is_none
          (mapped_none of_txn_rule (first_broken (txn_rules book.commodities book.accounts new)) kept.0);
      once = splits_once (n + 1) line others;
      from = drawn_from n (numbers_of new.splits) (splits_above n (n + 1) line others (omega arith));
      marks = and_from _ _ refl
          (unmarked_are_right book.reconciliations (new_splits (n + 1 + 1) given) (new_marks (n + 1 + 1) given));
      unvoided = refl;
    })
    (grind (arith, nat_tests, few)) (grind (arith, nat_tests, splits)) is

-- ---- the line in it

-- the first split of the transaction fits the line
first_fits :
    (book : Book) (n commodity : ℕ) (line : Line) (others : List GivenOther) (description : Option (List ℕ))
    → (let new = line_transaction n commodity line others description in
    IsSoundBook (record book { transactions = with_entry n new book.transactions })
    → Fits (record book { transactions = with_entry n new book.transactions }) line (n + 1))
first_fits book n commodity line others description is =
    let new = line_transaction n commodity line others description in
    let later = with_entry n new book.transactions in
    let own = own_split (n + 1) line in
    let others_ = new_splits (n + 1 + 1) (map given_split others) in
    let first : split_among (n + 1) new.splits ≡ Some own =
    ap (λ (b : Bool). cond b (Some own) (split_among (n + 1) others_)) (eq-eqb (n + 1) (n + 1) refl) in
    let there = value_here n n new book.transactions refl in
    let rules = is.transactions.keep.each n new there in
    let found = split_of_one n (n + 1) new later is.transactions.rise there (not-true _ rules.1.1.0)
    (found_among (n + 1) new.splits own first) in
    record { split = own; there = found ∙ first; account = refl; quantity = refl; unvoided = refl }

line_added :
    (book : Book) (next n commodity : ℕ) (line : Line) (others : List GivenOther) (description : Option (List ℕ))
    → value_of n book.lines ≡ Some line → AreDrawn book next
    → AllKept (post_rules book (line_transaction next commodity line others description))
    → IsSoundBook book
    → IsSoundBook (book_matched book next (line_transaction next commodity line others description) n line)
line_added book next n commodity line others description there are kept is =
    let new = line_transaction next commodity line others description in
    let posted = line_posted book next commodity line others description are kept is in
    matched-sound (record book { transactions = with_entry next new book.transactions }) n (next + 1) line there
    (first_fits book next commodity line others description posted)
    (record { each = λ k x other found. not_matched_yet book next (next + 1) k x (omega arith) found are is }) posted

-- ---- the command

line_add_of-sound :
    (state : State) (n : ℕ) (line : Line) (others : List GivenOther) (description : Option (List ℕ)) (new : State)
    (answered : Answer)
    → value_of n state.book.lines ≡ Some line → IsSound state
    → line_add_of state n line others description ≡ Done new answered
    → IsSound new
line_add_of-sound state n line others description new answered there is e =
    let book = state.book in
    let commodity = commodity_of (value_of line.account book.accounts) in
    let transaction = line_transaction state.next commodity line others description in
    let given = given_rules book.accounts n line commodity others in
    let posting = post_rules book transaction in
    let later = book_matched book state.next transaction n line in
    let drawn = 1 + length transaction.splits in
    let next = state.next + drawn in
    let change = changing_done state (given ++ posting) later drawn (matched_answer state.next transaction) new answered
    e in
    let own = drawn_below n state.next line book.lines is.drawn.lines there in
    let kept = kept_back given posting change.kept in
    let numbered = transaction_drawn book state.next next transaction (omega arith)
    (splits_below (state.next + 1) next line others (omega arith))
    (drawn_later book state.next next (omega arith) is.drawn) in
    sound_after state (given ++ posting) later drawn new change
    (line_added book state.next n commodity line others description there is.drawn kept is.book)
    (line_drawn (record book { transactions = with_entry state.next transaction book.transactions }) n next
    (matched_with (state.next + 1) line) (omega (arith, own)) numbered)

line_add_at-sound :
    (state : State) (n : ℕ) (others : List GivenOther) (description : Option (List ℕ)) (found : Option Line)
    (new : State) (answered : Answer)
    → value_of n state.book.lines ≡ found → IsSound state
    → line_add_at state n others description found ≡ Done new answered
    → IsSound new
line_add_at-sound state n others description None new answered there is e = absurd cc
line_add_at-sound state n others description (Some line) new answered there is e =
    line_add_of-sound state n line others description new answered there is e

pub line_add-sound :
    (state : State) (n : ℕ) (others : List GivenOther) (description : Option (List ℕ)) (new : State)
    (answered : Answer)
    → IsSound state → line_add state n others description ≡ Done new answered
    → IsSound new
line_add-sound state n others description new answered is e =
    line_add_at-sound state n others description (value_of n state.book.lines) new answered refl is e
