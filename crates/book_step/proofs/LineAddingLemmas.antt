-- What the command on a line comes to, from what the checks of its rules report.
use Rattle.std.proofs.Common.{◌≡◌, ℕ, ◌+◌, List, [], ◌∷◌, ◌++◌, length, map, Option, Some, None, Result, ap, subst}
use Rattle.std.proofs.Common.{◌∙◌, arith}
use Rattle.std.proofs.lemmas.List.{map-append}
use Rattle.book_commodity.specs.Rules.{first_broken}
use Rattle.book_commodity.specs.Table.{value_of}
use Rattle.book_commodity.proofs.RuleLemmas.{first-here, first-past}
use Rattle.book_splits.specs.declared.split.Split.{Split}
use Rattle.book_splits.specs.declared.transaction.Txn.{Txn}
use Rattle.book_statement.specs.declared.line.Line.{Line}
use Rattle.book_undo.specs.Book.{Book}
use Rattle.book_undo.specs.Edit.{edited}
use Rattle.book_undo.specs.declared.edit.Edit.{Edit}
use Rattle.book_step.specs.LineAdding.{book_matched, commodity_of, given_rules, given_split, line_add_of}
use Rattle.book_step.specs.LineAdding.{line_matched, line_splits, line_transaction, matched_answer, matching_edit}
use Rattle.book_step.specs.LineAdding.{own_split}
use Rattle.book_step.specs.Outcome.{Broken, Outcome, StepsTo, changing}
use Rattle.book_step.specs.Posting.{new_split, new_splits, post_rules}
use Rattle.book_step.specs.State.{State}
use Rattle.book_command.specs.declared.command.GivenOther.{GivenOther}
use Rattle.book_command.specs.declared.command.GivenSplit.{GivenSplit}
use Rattle.book_command.specs.declared.refusal.Refusal.{Refusal}
use Rattle.book_command.specs.declared.rule.Rule.{Rule}
use Rattle.book_step.specs.declared.step.Step.{Step}
use Rattle.book_step.proofs.ExactLines.{matching_leads}
use Rattle.book_step.proofs.OutcomeLemmas.{broken-changing, past-changing}
use Rattle.book_step.proofs.PostingLemmas.{new_splits-push}

-- What the command comes to in a commodity and with a transaction.
abbrev pub add_in : State → ℕ → Line → List GivenOther → ℕ → Txn → Outcome
add_in state n line others commodity transaction =
    line_matched state (given_rules state.book.accounts n line commodity others ++ post_rules state.book transaction)
    n line transaction

-- that is what it comes to where they are those of the line
pub add-made :
    (state : State) (n : ℕ) (line : Line) (others : List GivenOther) (description : Option (List ℕ)) (commodity : ℕ)
    (transaction : Txn) (result : Result Step Refusal)
    → commodity ≡ commodity_of (value_of line.account state.book.accounts)
    → transaction ≡ line_transaction state.next commodity line others description
    → StepsTo state (add_in state n line others commodity transaction) result
    → StepsTo state (line_add_of state n line others description) result
add-made state n line others description commodity transaction result is made h =
    let To : ℕ → Txn → Type 0 = λ c t. StepsTo state (add_in state n line others c t) result in
    let own : ℕ → Txn = λ c. line_transaction state.next c line others description in
    subst (λ (c : ℕ). To c (own c)) is (subst (λ (t : Txn). To commodity t) made h)

-- a rule of what is given is what it comes to
pub line_add-misgiven :
    (state : State) (n : ℕ) (line : Line) (others : List GivenOther) (description : Option (List ℕ)) (commodity : ℕ)
    (rule : Rule)
    → commodity ≡ commodity_of (value_of line.account state.book.accounts)
    → first_broken (given_rules state.book.accounts n line commodity others) ≡ Some rule
    → line_add_of state n line others description ≡ Broken rule
line_add-misgiven state n line others description commodity rule is e =
    let own = commodity_of (value_of line.account state.book.accounts) in
    let transaction = line_transaction state.next own line others description in
    let given = given_rules state.book.accounts n line own others in
    let posting = post_rules state.book transaction in
    let broken : first_broken given ≡ Some rule =
    subst (λ (c : ℕ). first_broken (given_rules state.book.accounts n line c others) ≡ Some rule) is e in
    broken-changing state (given ++ posting) (book_matched state.book state.next transaction n line)
    (1 + length transaction.splits) (matched_answer state.next transaction) rule
    (first-here given posting rule broken)

-- and so is a rule that a post of the transaction breaks
pub add-broken :
    (state : State) (n : ℕ) (line : Line) (others : List GivenOther) (commodity : ℕ) (transaction : Txn) (rule : Rule)
    → first_broken (given_rules state.book.accounts n line commodity others) ≡ None
    → first_broken (post_rules state.book transaction) ≡ Some rule
    → add_in state n line others commodity transaction ≡ Broken rule
add-broken state n line others commodity transaction rule kept e =
    let given = given_rules state.book.accounts n line commodity others in
    let posting = post_rules state.book transaction in
    broken-changing state (given ++ posting) (book_matched state.book state.next transaction n line)
    (1 + length transaction.splits) (matched_answer state.next transaction) rule (first-past given posting kept ∙ e)

-- where all are kept the transaction is put and the line is matched
pub add-changed :
    (state : State) (n : ℕ) (line : Line) (others : List GivenOther) (commodity : ℕ) (transaction : Txn)
    (result : Result Step Refusal)
    → first_broken (given_rules state.book.accounts n line commodity others) ≡ None
    → first_broken (post_rules state.book transaction) ≡ None
    → StepsTo state (line_matched state [] n line transaction) result
    → StepsTo state (add_in state n line others commodity transaction) result
add-changed state n line others commodity transaction result kept unbroken h =
    let given = given_rules state.book.accounts n line commodity others in
    let posting = post_rules state.book transaction in
    past-changing state (given ++ posting) (book_matched state.book state.next transaction n line)
    (1 + length transaction.splits) (matched_answer state.next transaction) result
    (first-past given posting kept ∙ unbroken) h

-- ---- the step of the edit

pub matched-changed :
    (state : State) (number n : ℕ) (line : Line) (transaction : Txn) (drawn : ℕ) (edit : Edit)
    (result : Result Step Refusal)
    → number ≡ state.next
    → drawn ≡ 1 + length transaction.splits
    → edit ≡ matching_edit number transaction n line
    → StepsTo state (changing state [] (edited edit state.book) drawn (matched_answer number transaction)) result
    → StepsTo state (line_matched state [] n line transaction) result
matched-changed state number n line transaction drawn edit result next count made h =
    let To : ℕ → ℕ → Book → Type 0 =
    λ m d b. StepsTo state (changing state [] b d (matched_answer m transaction)) result in
    let leads = ap (λ (e : Edit). edited e state.book) made ∙ matching_leads state.book number transaction n line in
    let there = subst (λ (b : Book). To number drawn b) leads h in
    let counted = subst (λ (d : ℕ). To number d (book_matched state.book number transaction n line)) count there in
    subst (λ (m : ℕ). To m (1 + length transaction.splits) (book_matched state.book m transaction n line)) next counted

-- ---- the splits of the transaction

-- one more of the others draws the number behind those before
pub line_splits-push :
    (number : ℕ) (line : Line) (others : List GivenOther) (other : GivenOther)
    → line_splits number line (others ++ other ∷ [])
    ≡ line_splits number line others
    ++ new_split (number + length (line_splits number line others)) (given_split other) ∷ []
line_splits-push number line others other =
    let given = map given_split others in
    let own = own_split number line in
    ap (λ (gs : List GivenSplit). own ∷ new_splits (number + 1) gs) (map-append given_split others (other ∷ []))
    ∙ ap (λ (splits : List Split). own ∷ splits) (new_splits-push (number + 1) given (given_split other))
    ∙ ap (λ (n : ℕ). own ∷ (new_splits (number + 1) given ++ new_split n (given_split other) ∷ [])) (omega arith)
