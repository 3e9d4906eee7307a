-- What the commands on a split come to, from what the checks of their rules report.
use Rattle.std.proofs.Common.{◌≡◌, ℕ, Bool, true, false, List, [], ◌∷◌, Option, Some, None, Result, sym, ap}
use Rattle.std.proofs.Common.{refl, subst, ◌∙◌}
use Rattle.std.proofs.lemmas.Bool.{not-false}
use Rattle.book_commodity.specs.Rules.{first_broken}
use Rattle.book_commodity.specs.Table.{value_of, with_entry}
use Rattle.book_commodity.proofs.RuleLemmas.{kept_of, not-broken}
use Rattle.book_splits.specs.declared.split.Split.{Split}
use Rattle.book_splits.specs.declared.transaction.Txn.{Txn}
use Rattle.book_statement.specs.declared.line.Line.{Line}
use Rattle.book_statement.specs.declared.line_state.LineState.{LineState}
use Rattle.book_statement.specs.declared.line_state.LineState.TheVariants.{Open, Matched, Dismissed}
use Rattle.book_undo.specs.Book.{Book}
use Rattle.book_undo.specs.Edit.{edited}
use Rattle.book_undo.specs.declared.edit.Edit.{Edit}
use Rattle.book_sound.specs.LineRules.{split_at}
use Rattle.book_command.specs.declared.answer.Answer.TheVariants as answer
use Rattle.book_command.specs.declared.refusal.Refusal.{Refusal}
use Rattle.book_command.specs.declared.rule.Rule.{Rule}
use Rattle.book_step.specs.BankLines.{is_open}
use Rattle.book_step.specs.LineMatching.{book_paired, line_match, line_match_at, line_match_of, match_rules}
use Rattle.book_step.specs.LineMatching.{pairing_edit}
use Rattle.book_step.specs.Marking.{Held, IsHeld, book_marked, keeps_mark, mark, mark_asked, mark_at, mark_of}
use Rattle.book_step.specs.Marking.{remarked}
use Rattle.book_step.specs.Outcome.{Broken, Outcome, StepsTo, changing, leaving, unless_broken}
use Rattle.book_step.specs.SameTransaction.{is_mark}
use Rattle.book_step.specs.Soundness.{IsSound}
use Rattle.book_step.specs.State.{State}
use Rattle.book_step.specs.VoidRules.{voided_transaction_of}
use Rattle.book_step.specs.declared.step.Step.{Step}
use Rattle.book_step.proofs.ExactMarks.{pairing_leads}
use Rattle.book_step.proofs.OutcomeLemmas.{broken-changing, either-broken, either-changed, either-left, past-changing}
use Rattle.book_step.proofs.RemarkLemmas.{marked_is_put}

-- ---- a mark

-- a split that is there and whose transaction is not voided
mark-past :
    (state : State) (number : ℕ) (cleared force : Bool) (split : Split)
    → split_at number state.book.transactions ≡ Some split → voided_transaction_of state.book.transactions number ≡ None
    → mark state number cleared force ≡ mark_of state number (mark_asked cleared) force split
mark-past state number cleared force split there unvoided =
    let to = mark_asked cleared in
    ap (mark_at state number to force) there
    ∙ ap (λ (rule : Option Rule). unless_broken rule (mark_of state number to force split)) unvoided

-- one whose transaction is voided
pub mark-voided :
    (state : State) (number : ℕ) (cleared force : Bool) (split : Split) (rule : Rule)
    → split_at number state.book.transactions ≡ Some split → voided_transaction_of state.book.transactions number ≡ Some rule
    → mark state number cleared force ≡ Broken rule
mark-voided state number cleared force split rule there voided =
    let to = mark_asked cleared in
    ap (mark_at state number to force) there
    ∙ ap (λ (rule : Option Rule). unless_broken rule (mark_of state number to force split)) voided

-- a rule that is broken is what it comes to
pub mark-broken :
    (state : State) (number : ℕ) (cleared force : Bool) (split : Split) (rule : Rule)
    → split_at number state.book.transactions ≡ Some split → voided_transaction_of state.book.transactions number ≡ None
    → first_broken (keeps_mark force number split ∷ []) ≡ Some rule
    → mark state number cleared force ≡ Broken rule
mark-broken state number cleared force split rule there unvoided e =
    let to = mark_asked cleared in
    mark-past state number cleared force split there unvoided
    ∙ either-broken state (is_mark split.mark to) (keeps_mark force number split ∷ [])
    (book_marked number to state.book) 0 answer.Mark answer.Mark rule e

-- a split that has the mark leaves the book
pub mark-left :
    (state : State) (number : ℕ) (cleared force : Bool) (split : Split) (result : Result Step Refusal)
    → split_at number state.book.transactions ≡ Some split → voided_transaction_of state.book.transactions number ≡ None
    → first_broken (keeps_mark force number split ∷ []) ≡ None → is_mark split.mark (mark_asked cleared) ≡ true
    → StepsTo state (leaving state [] answer.Mark) result
    → StepsTo state (mark state number cleared force) result
mark-left state number cleared force split result there unvoided kept same h =
    let to = mark_asked cleared in
    subst (λ (outcome : Outcome). StepsTo state outcome result)
    (sym (mark-past state number cleared force split there unvoided))
    (either-left state (is_mark split.mark to) (keeps_mark force number split ∷ [])
    (book_marked number to state.book) 0 answer.Mark answer.Mark result kept same h)

-- another is put with its transaction
pub mark-changed :
    (state : State) (number : ℕ) (cleared force : Bool) (held : Held) (new : Txn) (result : Result Step Refusal)
    → IsSound state → IsHeld state.book.transactions number held
    → split_at number state.book.transactions ≡ Some held.split
    → voided_transaction_of state.book.transactions number ≡ None
    → first_broken (keeps_mark force number held.split ∷ []) ≡ None
    → is_mark held.split.mark (mark_asked cleared) ≡ false
    → new ≡ remarked number (mark_asked cleared) held.transaction
    → StepsTo state
    (changing state [] (record state.book { transactions = with_entry held.number new state.book.transactions }) 0
    answer.Mark) result
    → StepsTo state (mark state number cleared force) result
mark-changed state number cleared force held new result is has there unvoided kept differs made h =
    let to = mark_asked cleared in
    let book = state.book in
    let put : record book { transactions = with_entry held.number new book.transactions }
    ≡ book_marked number to book =
    ap (λ (t : Txn). record book { transactions = with_entry held.number t book.transactions }) made
    ∙ sym (marked_is_put book number to held is.book has) in
    subst (λ (outcome : Outcome). StepsTo state outcome result)
    (sym (mark-past state number cleared force held.split there unvoided))
    (either-changed state (is_mark held.split.mark to) (keeps_mark force number held.split ∷ [])
    (book_marked number to book) 0 answer.Mark answer.Mark result kept differs
    (subst (λ (b : Book). StepsTo state (changing state [] b 0 answer.Mark) result) put h))

-- ---- a match

open_is : (state : LineState) → is_open state ≡ true → state ≡ Open
open_is Open is = refl
open_is (Matched split) is = absurd cc
open_is Dismissed is = absurd cc

-- a line that keeps its rules is open
pub match-open :
    (lines : List (ℕ × Line)) (number wanted : ℕ) (line : Line) (split : Split)
    → first_broken (match_rules lines number line wanted split) ≡ None
    → line.state ≡ Open
match-open lines number wanted line split e =
    let kept = kept_of (match_rules lines number line wanted split) e in
    open_is line.state (not-false (is_open line.state) (not-broken _ _ kept.0))

-- a line and a split that are there, where the split's transaction is not voided
match-past :
    (state : State) (number wanted : ℕ) (line : Line) (split : Split)
    → value_of number state.book.lines ≡ Some line → split_at wanted state.book.transactions ≡ Some split
    → voided_transaction_of state.book.transactions wanted ≡ None
    → line_match state number wanted
    ≡ changing state (match_rules state.book.lines number line wanted split)
    (book_paired number line wanted split state.book) 0 answer.LineMatch
match-past state number wanted line split there at unvoided =
    let done = changing state (match_rules state.book.lines number line wanted split)
    (book_paired number line wanted split state.book) 0 answer.LineMatch in
    ap (line_match_at state number wanted) there
    ∙ ap (line_match_of state number line wanted) at
    ∙ ap (λ (rule : Option Rule). unless_broken rule done) unvoided

-- where it is voided
pub match-voided :
    (state : State) (number wanted : ℕ) (line : Line) (split : Split) (rule : Rule)
    → value_of number state.book.lines ≡ Some line → split_at wanted state.book.transactions ≡ Some split
    → voided_transaction_of state.book.transactions wanted ≡ Some rule → line_match state number wanted ≡ Broken rule
match-voided state number wanted line split rule there at voided =
    let done = changing state (match_rules state.book.lines number line wanted split)
    (book_paired number line wanted split state.book) 0 answer.LineMatch in
    ap (line_match_at state number wanted) there
    ∙ ap (line_match_of state number line wanted) at
    ∙ ap (λ (rule : Option Rule). unless_broken rule done) voided

pub match-broken :
    (state : State) (number wanted : ℕ) (line : Line) (split : Split) (rule : Rule)
    → value_of number state.book.lines ≡ Some line → split_at wanted state.book.transactions ≡ Some split
    → voided_transaction_of state.book.transactions wanted ≡ None
    → first_broken (match_rules state.book.lines number line wanted split) ≡ Some rule
    → line_match state number wanted ≡ Broken rule
match-broken state number wanted line split rule there at unvoided e =
    match-past state number wanted line split there at unvoided
    ∙ broken-changing state (match_rules state.book.lines number line wanted split)
    (book_paired number line wanted split state.book) 0 answer.LineMatch rule e

pub match-changed :
    (state : State) (number wanted : ℕ) (line : Line) (held : Held) (edit : Edit) (result : Result Step Refusal)
    → IsSound state → IsHeld state.book.transactions wanted held → value_of number state.book.lines ≡ Some line
    → split_at wanted state.book.transactions ≡ Some held.split
    → voided_transaction_of state.book.transactions wanted ≡ None
    → first_broken (match_rules state.book.lines number line wanted held.split) ≡ None
    → edit ≡ pairing_edit number line wanted held.number held.transaction held.split
    → StepsTo state (changing state [] (edited edit state.book) 0 answer.LineMatch) result
    → StepsTo state (line_match state number wanted) result
match-changed state number wanted line held edit result is has there at unvoided kept made h =
    let later = book_paired number line wanted held.split state.book in
    let leads = ap (λ (e : Edit). edited e state.book) made
    ∙ pairing_leads state.book number line wanted held is.book has in
    let same = match-past state number wanted line held.split there at unvoided in
    subst (λ (outcome : Outcome). StepsTo state outcome result) (sym same)
    (past-changing state (match_rules state.book.lines number line wanted held.split) later 0 answer.LineMatch result
    kept (subst (λ (b : Book). StepsTo state (changing state [] b 0 answer.LineMatch) result) leads h))
