-- A change that is done leaves the state as it is, or raises its version by one, and the next number doesn't fall.
use Rattle.std.proofs.Common.{◌≡◌, ◌≤◌, ℕ, ◌+◌, ◌==◌, ℤ, Bool, true, false, if◌then◌else◌, List, [], ◌∷◌, ◌++◌, length}
use Rattle.std.proofs.Common.{map, Option, Some, None, Result, Ok, Err, inl, inr, sym, ap, arith, ◌⊎◌}
use Rattle.book_commodity.specs.Rules.{first_broken}
use Rattle.book_commodity.specs.Table.{value_of}
use Rattle.book_accounts.specs.declared.account.Account.{Account}
use Rattle.book_prices.specs.declared.price.Price.{Price}
use Rattle.book_schedule.specs.declared.recurrence.Recurrence.{Recurrence}
use Rattle.book_splits.specs.declared.split.Mark as marks
use Rattle.book_splits.specs.declared.split.Split.{Split}
use Rattle.book_splits.specs.declared.transaction.Txn.{Txn}
use Rattle.book_statement.specs.declared.binding.Binding.{Binding}
use Rattle.book_statement.specs.declared.fault.StatementFault.{StatementFault}
use Rattle.book_statement.specs.declared.line.Line.{Line}
use Rattle.book_statement.specs.declared.line_state.LineState.TheVariants.{Open, Dismissed}
use Rattle.book_statement.specs.declared.statement.Statement.{Statement}
use Rattle.book_sound.specs.LineRules.{split_at}
use Rattle.book_undo.specs.Book.{Book, with_currency, with_thing, without_thing}
use Rattle.book_undo.specs.declared.thing.Thing.TheVariants as thing
use Rattle.book_undo.specs.declared.thing.ThingKind.TheVariants as kind
use Rattle.book_command.specs.declared.answer.Answer.{Answer}
use Rattle.book_command.specs.declared.answer.Answer.TheVariants as answer
use Rattle.book_command.specs.declared.command.GivenAccount.{GivenAccount}
use Rattle.book_command.specs.declared.command.GivenOther.{GivenOther}
use Rattle.book_command.specs.declared.command.GivenSchedule.{GivenSchedule}
use Rattle.book_command.specs.declared.command.GivenTxn.{GivenTxn}
use Rattle.book_command.specs.declared.command.Update.{Update}
use Rattle.book_command.specs.declared.command.Update.TheVariants.{BookCurrency, CommodityAdd, AccountAdd}
use Rattle.book_command.specs.declared.command.Update.TheVariants.{AccountEdit, AccountDrop, Drop, Edit, Post, Unvoid, Void}
use Rattle.book_command.specs.declared.command.Update.TheVariants.{PriceDrop, PriceSet, ScheduleAdd, ScheduleDrop}
use Rattle.book_command.specs.declared.command.Update.TheVariants.{ScheduleRun}
use Rattle.book_command.specs.declared.command.Update.TheVariants.{Bind, Import, LineAdd, LineDismiss, LineReopen}
use Rattle.book_command.specs.declared.command.Update.TheVariants.{Mark}
use Rattle.book_command.specs.declared.command.Update.TheVariants.{LineMatch}
use Rattle.book_command.specs.declared.command.Update.TheVariants.{MatchAuto}
use Rattle.book_command.specs.declared.command.Update.TheVariants.{Reconcile, ReconcileStatement}
use Rattle.book_command.specs.declared.rule.Rule.{Rule}
use Rattle.book_command.specs.declared.rule.Rule.TheVariants.{BadStatement}
use Rattle.book_step.specs.Accounts.{account_drop_of, account_edit_at, add_rules, drop_rules, edit_rules}
use Rattle.book_step.specs.Accounts.{stays, with_given}
use Rattle.book_step.specs.Accounts.{unknown_account}
use Rattle.book_step.specs.AutoMatching.{book_paired, match_rules, matches}
use Rattle.book_step.specs.BankLines.{in_state, is_open, line_dismiss_at, line_reopen_at, line_taken}
use Rattle.book_step.specs.Bindings as bindings
use Rattle.book_step.specs.Bindings.{account_rules, bind_at, binding_of}
use Rattle.book_step.specs.Commodities as commodities
use Rattle.book_step.specs.Editing as editing
use Rattle.book_step.specs.Editing.{book_with, book_without, drop_at, drawn_by, edit_answer, edit_at}
use Rattle.book_step.specs.Editing.{edited_transaction, reconciled}
use Rattle.book_step.specs.Importing as importing
use Rattle.book_step.specs.Importing.{added_by, adds_nothing, file_rules, import_answer, import_said, room_rules, said}
use Rattle.book_step.specs.LineAdding as adding
use Rattle.book_step.specs.LineAdding.{book_matched, commodity_of, line_add_at, line_transaction, matched_answer}
use Rattle.book_step.specs.LineMatching as line_matching
use Rattle.book_step.specs.LineMatching.{line_match_at, line_match_of}
use Rattle.book_step.specs.Marking.{book_marked, keeps_mark, mark_asked, mark_at, mark_of}
use Rattle.book_step.specs.Outcome.{Broken, Done, changing, leaving, unless_broken}
use Rattle.book_step.specs.Posting.{new_transaction, post_answer, post_rules}
use Rattle.book_step.specs.Prices.{has_numbers, price_of_day, price_rules, price_set_at, too_many_prices}
use Rattle.book_step.specs.Prices.{unknown_price}
use Rattle.book_sound.specs.ReconciliationRules.{marked_numbers}
use Rattle.book_statement.specs.declared.held.Held.{Held}
use Rattle.book_step.specs.Reconciling.{book_reconciled, finish_rules, finished, reconcile_at, reconcile_closed}
use Rattle.book_step.specs.Reconciling.{reconcile_of}
use Rattle.book_step.specs.SameTransaction.{same_transaction}
use Rattle.book_step.specs.SameTransaction.{is_mark}
use Rattle.book_step.specs.ScheduleRuns as schedule_runs
use Rattle.book_step.specs.ScheduleRuns.{asked, asked_rules, book_ran, made_by, schedule_run_of, too_many_made}
use Rattle.book_step.specs.ScheduleRuns.{too_many_splits_made}
use Rattle.book_step.specs.Schedules as schedules
use Rattle.book_step.specs.Schedules.{Run, new_schedule, runs_of, schedule_add_from, unknown_schedule}
use Rattle.book_step.specs.State.{State}
use Rattle.book_step.specs.Step.{outcome}
use Rattle.book_step.specs.VoidRules.{voided_transaction, not_voided, voided_transaction_of}
use Rattle.book_step.specs.Voiding.{book_restored, unvoid_at, void_at}
use Rattle.book_void.specs.Voiding.{voided_for}
use Rattle.book_step.proofs.SoundOutcome.{changing_done, leaving_done, unless_done}

-- The state is the same, or its version is one more, and the next number has not fallen.
abbrev pub Moves : State → State → Type 0
Moves old new = (old ≡ new) ⊎ ((new.version ≡ old.version + 1) × (old.next ≤ new.next))

changing_moves :
    (state : State) (rules : List (Option Rule)) (book : Book) (drawn : ℕ) (given : Answer) (new : State)
    (answer : Answer) → changing state rules book drawn given ≡ Done new answer → Moves state new
changing_moves state rules book drawn given new answer e =
    let change = changing_done state rules book drawn given new answer e in
    let next = ap (λ (s : State). s.next) change.is in
    inr (ap (λ (s : State). s.version) (sym change.is), omega (arith, next))

leaving_moves :
    (state : State) (rules : List (Option Rule)) (given : Answer) (new : State) (answer : Answer)
    → leaving state rules given ≡ Done new answer → Moves state new
leaving_moves state rules given new answer e = inl (leaving_done state rules given new answer e)

either_moves :
    (stay : Bool) (state : State) (rules : List (Option Rule)) (book : Book) (drawn : ℕ) (left made : Answer)
    (new : State) (answer : Answer)
    → (if stay then leaving state rules left else changing state rules book drawn made) ≡ Done new answer
    → Moves state new
either_moves true state rules book drawn left made new answer e = leaving_moves state rules left new answer e
either_moves false state rules book drawn left made new answer e =
    changing_moves state rules book drawn made new answer e

account_edit_moves :
    (state : State) (n : ℕ) (given : GivenAccount) (found : Option Account) (new : State) (reply : Answer)
    → account_edit_at state n given found ≡ Done new reply → Moves state new
account_edit_moves state n given None new reply e = absurd cc
account_edit_moves state n given (Some old) new reply e =
    either_moves (stays old given).is state (edit_rules state.book n given.parent old (with_given old given))
    (with_thing n (thing.Account (with_given old given)) state.book) 0 answer.AccountEdit answer.AccountEdit new reply e

account_drop_moves :
    (state : State) (n : ℕ) (found : Option Account) (new : State) (reply : Answer)
    → account_drop_of state n found ≡ Done new reply → Moves state new
account_drop_moves state n None new reply e = absurd cc
account_drop_moves state n (Some old) new reply e =
    changing_moves state (drop_rules state.book n old) (without_thing kind.Account n state.book) 0 answer.AccountDrop
    new reply e

edit_moves :
    (state : State) (n : ℕ) (force : Bool) (day : ℤ) (given : GivenTxn) (found : Option Txn) (new : State)
    (reply : Answer) → edit_at state n force day given found ≡ Done new reply → Moves state new
edit_moves state n force day given None new reply e = absurd cc
edit_moves state n force day given (Some old) new reply e =
    let transaction = edited_transaction old state.next day given in
    let book = book_with state.book n old transaction in
    let done = unless_done (voided_transaction n old) (editing.edit_of state n force day given old) new reply e in
    either_moves (same_transaction transaction old).is state
    (editing.edit_rules state.book n force given old transaction) book (drawn_by old.splits given.splits)
    (edit_answer state.book n transaction) (edit_answer book n transaction) new reply done.1

drop_moves :
    (state : State) (n : ℕ) (force : Bool) (found : Option Txn) (new : State) (reply : Answer)
    → drop_at state n force found ≡ Done new reply → Moves state new
drop_moves state n force None new reply e = absurd cc
drop_moves state n force (Some old) new reply e =
    changing_moves state (voided_transaction n old ∷ reconciled force old.splits [] ∷ []) (book_without state.book n old) 0
    answer.Drop new reply e

void_moves :
    (state : State) (n : ℕ) (reason : List ℕ) (force : Bool) (found : Option Txn) (new : State) (reply : Answer)
    → void_at state n reason force found ≡ Done new reply → Moves state new
void_moves state n reason force None new reply e = absurd cc
void_moves state n reason force (Some old) new reply e =
    changing_moves state (voided_transaction n old ∷ reconciled force old.splits [] ∷ [])
    (book_with state.book n old (voided_for reason old)) 0 answer.Void new reply e

unvoid_moves :
    (state : State) (n : ℕ) (found : Option Txn) (new : State) (reply : Answer)
    → unvoid_at state n found ≡ Done new reply → Moves state new
unvoid_moves state n None new reply e = absurd cc
unvoid_moves state n (Some old) new reply e =
    changing_moves state (not_voided n old ∷ []) (book_restored state.book n old) 0 answer.Unvoid new reply e

price_moves :
    (state : State) (price : Price) (found : Option (ℕ × Price)) (new : State) (reply : Answer)
    → price_set_at state price found ≡ Done new reply → Moves state new
price_moves state price None new reply e =
    changing_moves state (price_rules state.book price ++ too_many_prices state.book.prices ∷ [])
    (with_thing state.next (thing.Price price) state.book) 1 (answer.PriceSet state.next) new reply e
price_moves state price (Some old) new reply e =
    either_moves (has_numbers old.1 price) state (price_rules state.book price)
    (with_thing old.0 (thing.Price price) state.book) 0 (answer.PriceSet old.0) (answer.PriceSet old.0) new reply e

schedule_moves :
    (state : State) (given : GivenSchedule) (rs : List Recurrence) (new : State) (reply : Answer)
    → schedule_add_from state given rs ≡ Done new reply → Moves state new
schedule_moves state given [] new reply e = absurd cc
schedule_moves state given (first ∷ more) new reply e =
    let schedule = new_schedule first.start given in
    changing_moves state (schedules.add_rules state.book schedule)
    (with_thing state.next (thing.Schedule schedule) state.book) 1 (answer.ScheduleAdd state.next) new reply e

run_moves :
    (state : State) (rules : List (Option Rule)) (runs : List Run) (new : State) (reply : Answer)
    → schedule_run_of state rules runs ≡ Done new reply → Moves state new
run_moves state rules [] new reply e = leaving_moves state rules (answer.ScheduleRun []) new reply e
run_moves state rules (run ∷ more) new reply e =
    let runs = run ∷ more in
    changing_moves state
    (rules ++ too_many_made state.book runs ∷ too_many_splits_made state.book runs ∷ [])
    (book_ran state.book state.next runs) (schedule_runs.drawn_by runs)
    (answer.ScheduleRun (map (λ (entry : ℕ × Txn). entry.0) (made_by state.next runs))) new reply e

bind_moves :
    (state : State) (binding : Binding) (found : Option (ℕ × Binding)) (new : State) (reply : Answer)
    → bind_at state binding found ≡ Done new reply → Moves state new
bind_moves state binding None new reply e =
    changing_moves state (bindings.new_rules state.book binding.account)
    (with_thing state.next (thing.Binding binding) state.book) 1 answer.Bind new reply e
bind_moves state binding (Some old) new reply e =
    either_moves (old.1.account == binding.account) state (account_rules state.book.accounts binding.account)
    (with_thing old.0 (thing.Binding binding) state.book) 0 answer.Bind answer.Bind new reply e

dismiss_moves :
    (state : State) (n : ℕ) (found : Option Line) (new : State) (reply : Answer)
    → line_dismiss_at state n found ≡ Done new reply → Moves state new
dismiss_moves state n None new reply e = absurd cc
dismiss_moves state n (Some line) new reply e =
    changing_moves state (line_taken n line ∷ [])
    (with_thing n (thing.Line (in_state line Dismissed)) state.book) 0 answer.LineDismiss new reply e

reopen_moves :
    (state : State) (n : ℕ) (found : Option Line) (new : State) (reply : Answer)
    → line_reopen_at state n found ≡ Done new reply → Moves state new
reopen_moves state n None new reply e = absurd cc
reopen_moves state n (Some line) new reply e =
    either_moves (is_open line.state) state [] (with_thing n (thing.Line (in_state line Open)) state.book) 0
    answer.LineReopen answer.LineReopen new reply e

add_moves :
    (state : State) (n : ℕ) (others : List GivenOther) (description : Option (List ℕ)) (found : Option Line)
    (new : State) (reply : Answer)
    → line_add_at state n others description found ≡ Done new reply → Moves state new
add_moves state n others description None new reply e = absurd cc
add_moves state n others description (Some line) new reply e =
    let book = state.book in
    let commodity = commodity_of (value_of line.account book.accounts) in
    let transaction = line_transaction state.next commodity line others description in
    changing_moves state (adding.given_rules book.accounts n line commodity others ++ post_rules book transaction)
    (book_matched book state.next transaction n line) (1 + length transaction.splits)
    (matched_answer state.next transaction) new reply e

import_moves :
    (state : State) (rules : List (Option Rule)) (given : Option ℕ) (says : Result (List Statement) StatementFault)
    (new : State) (reply : Answer) → import_said state rules given says ≡ Done new reply → Moves state new
import_moves state rules given (Err fault) new reply e = go (first_broken rules) e
  where
    go : (broken : Option Rule) → unless_broken broken (Broken (BadStatement fault)) ≡ Done new reply → Moves state new
    go None e = absurd cc
    go (Some rule) e = absurd cc
import_moves state rules given (Ok statements) new reply e =
    let added = added_by state given statements in
    either_moves (adds_nothing added) state
    ((rules ++ file_rules state.book given statements) ++ room_rules state.book added)
    (importing.book_with state.book added) (importing.drawn_by added) (import_answer added) (import_answer added) new
    reply e

reconcile_moves :
    (state : State) (rules : List (Option Rule)) (answers : ℕ → List ℕ → Answer) (account : ℕ) (day closing : ℤ)
    (new : State) (reply : Answer) → reconcile_of state rules answers account day closing ≡ Done new reply
    → Moves state new
reconcile_moves state rules answers account day closing new reply e =
    let book = state.book in
    let recon = finished book account day closing in
    changing_moves state (rules ++ finish_rules book account day closing) (book_reconciled book state.next recon) 1
    (answers state.next (marked_numbers recon.marked)) new reply e

reconcile_closed_moves :
    (state : State) (n : ℕ) (statement : Held) (closing : Option ℤ) (new : State) (reply : Answer)
    → reconcile_closed state n statement closing ≡ Done new reply → Moves state new
reconcile_closed_moves state n statement None new reply e = absurd cc
reconcile_closed_moves state n statement (Some closing) new reply e =
    reconcile_moves state [] (λ number marked. answer.ReconcileStatement number marked) statement.account statement.day
    closing new reply e

reconcile_statement_moves :
    (state : State) (n : ℕ) (found : Option Held) (new : State) (reply : Answer)
    → reconcile_at state n found ≡ Done new reply → Moves state new
reconcile_statement_moves state n None new reply e = absurd cc
reconcile_statement_moves state n (Some statement) new reply e =
    reconcile_closed_moves state n statement statement.closing new reply e

mark_moves :
    (state : State) (number : ℕ) (to : marks.Mark) (force : Bool) (found : Option Split) (new : State) (reply : Answer)
    → mark_at state number to force found ≡ Done new reply → Moves state new
mark_moves state number to force None new reply e = absurd cc
mark_moves state number to force (Some split) new reply e =
    let done = unless_done (voided_transaction_of state.book.transactions number) (mark_of state number to force split) new reply
    e in
    either_moves (is_mark split.mark to) state (keeps_mark force number split ∷ []) (book_marked number to state.book) 0
    answer.Mark answer.Mark new reply done.1

pair_moves :
    (state : State) (n : ℕ) (line : Line) (wanted : ℕ) (found : Option Split) (new : State) (reply : Answer)
    → line_match_of state n line wanted found ≡ Done new reply → Moves state new
pair_moves state n line wanted None new reply e = absurd cc
pair_moves state n line wanted (Some split) new reply e =
    let rules = line_matching.match_rules state.book.lines n line wanted split in
    let later = line_matching.book_paired n line wanted split state.book in
    let done = unless_done (voided_transaction_of state.book.transactions wanted) (changing state rules later 0 answer.LineMatch) new
    reply e in
    changing_moves state rules later 0 answer.LineMatch new reply done.1

match_moves :
    (state : State) (n wanted : ℕ) (found : Option Line) (new : State) (reply : Answer)
    → line_match_at state n wanted found ≡ Done new reply → Moves state new
match_moves state n wanted None new reply e = absurd cc
match_moves state n wanted (Some line) new reply e =
    pair_moves state n line wanted (split_at wanted state.book.transactions) new reply e

-- A change that is done leaves the state as it is, or raises its version by one, and the next number does not fall.
pub outcome_moves :
    (state : State) (update : Update) (new : State) (reply : Answer) → outcome state update ≡ Done new reply
    → Moves state new
outcome_moves state (BookCurrency commodity) new reply e =
    either_moves (commodity == state.book.currency) state (commodities.currency_rules state.book commodity)
    (with_currency commodity state.book) 0 answer.BookCurrency answer.BookCurrency new reply e
outcome_moves state (CommodityAdd commodity) new reply e =
    changing_moves state (commodities.add_rules state.book commodity)
    (with_thing state.next (thing.Commodity commodity) state.book) 1 (answer.CommodityAdd state.next) new reply e
outcome_moves state (AccountAdd account) new reply e =
    changing_moves state (add_rules state.book account)
    (with_thing state.next (thing.Account account) state.book) 1 (answer.AccountAdd state.next) new reply e
outcome_moves state (AccountEdit account given) new reply e =
    account_edit_moves state account given (value_of account state.book.accounts) new reply e
outcome_moves state (AccountDrop account) new reply e =
    account_drop_moves state account (value_of account state.book.accounts) new reply e
outcome_moves state (Post day given) new reply e =
    let transaction = new_transaction state.next day given in
    let book = with_thing state.next (thing.Txn transaction) state.book in
    changing_moves state (post_rules state.book transaction) book (1 + length transaction.splits)
    (post_answer book state.next transaction) new reply e
outcome_moves state (Edit n force day given) new reply e =
    edit_moves state n force day given (value_of n state.book.transactions) new reply e
outcome_moves state (Drop n force) new reply e =
    drop_moves state n force (value_of n state.book.transactions) new reply e
outcome_moves state (Void n reason force) new reply e =
    void_moves state n reason force (value_of n state.book.transactions) new reply e
outcome_moves state (Unvoid n) new reply e = unvoid_moves state n (value_of n state.book.transactions) new reply e
outcome_moves state (PriceSet price) new reply e =
    price_moves state price (price_of_day state.book.prices price) new reply e
outcome_moves state (PriceDrop n) new reply e =
    changing_moves state (unknown_price state.book.prices n ∷ []) (without_thing kind.Price n state.book) 0
    answer.PriceDrop new reply e
outcome_moves state (ScheduleAdd given) new reply e = schedule_moves state given given.recurrences new reply e
outcome_moves state (ScheduleDrop n) new reply e =
    changing_moves state (unknown_schedule state.book.schedules n ∷ []) (without_thing kind.Schedule n state.book) 0
    answer.ScheduleDrop new reply e
outcome_moves state (ScheduleRun upto only) new reply e =
    run_moves state (asked_rules state upto only) (runs_of upto (asked only state.book.schedules)) new reply e
outcome_moves state (Bind binding) new reply e =
    bind_moves state binding (binding_of binding.text state.book.bindings) new reply e
outcome_moves state (LineDismiss n) new reply e = dismiss_moves state n (value_of n state.book.lines) new reply e
outcome_moves state (LineReopen n) new reply e = reopen_moves state n (value_of n state.book.lines) new reply e
outcome_moves state (LineAdd n others description) new reply e =
    add_moves state n others description (value_of n state.book.lines) new reply e
outcome_moves state (Import format text account) new reply e =
    import_moves state (importing.given_rules state.book format account) account
    (said state.book.commodities text format) new reply e
outcome_moves state (Mark split cleared force) new reply e =
    mark_moves state split (mark_asked cleared) force (split_at split state.book.transactions) new reply e
outcome_moves state (LineMatch line split) new reply e =
    match_moves state line split (value_of line state.book.lines) new reply e
outcome_moves state (MatchAuto account window) new reply e =
    let pairs = matches state.book account window in
    either_moves (length pairs == 0) state (match_rules state.book account window) (book_paired pairs state.book) 0
    (answer.MatchAuto pairs) (answer.MatchAuto pairs) new reply e
outcome_moves state (Reconcile account day closing) new reply e =
    reconcile_moves state (unknown_account state.book.accounts account ∷ [])
    (λ number marked. answer.Reconcile number marked) account day closing new reply e
outcome_moves state (ReconcileStatement statement) new reply e =
    reconcile_statement_moves state statement (value_of statement state.book.statements) new reply e
