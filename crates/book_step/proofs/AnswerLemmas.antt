-- The answer to a command is what a step answers, with the balances of the book that the step leads to.
use Rattle.std.proofs.Common.{◌≡◌, ℕ, ◌+◌, ◌==◌, ℤ, Bool, true, false, if◌then◌else◌, List, []}
use Rattle.std.proofs.Common.{◌∷◌, ◌++◌, length, map, Result, Ok, Err, Option, Some, None, refl, sym, ap, subst, ◌∙◌}
use Rattle.std.specs.Prelude.{⊤}
use Rattle.book_commodity.specs.Rules.{first_broken}
use Rattle.book_commodity.specs.Table.{Rises, value_of, with_entry}
use Rattle.book_commodity.proofs.DrawnLemmas.{value_here}
use Rattle.book_accounts.specs.declared.account.Account.{Account}
use Rattle.book_schedule.specs.declared.recurrence.Recurrence.{Recurrence}
use Rattle.book_splits.specs.declared.transaction.Txn.{Txn}
use Rattle.book_splits.specs.declared.split.Mark.{Mark}
use Rattle.book_splits.specs.declared.split.Split.{Split}
use Rattle.book_prices.specs.declared.price.Price.{Price}
use Rattle.book_statement.specs.declared.line.Line.{Line}
use Rattle.book_statement.specs.declared.binding.Binding.{Binding}
use Rattle.book_statement.specs.declared.line_state.LineState.TheVariants.{Open, Dismissed}
use Rattle.book_statement.specs.declared.fault.StatementFault.{StatementFault}
use Rattle.book_statement.specs.declared.statement.Statement.{Statement}
use Rattle.book_import.specs.declared.added.Additions.{Additions}
use Rattle.book_sound.specs.LineRules.{split_at}
use Rattle.book_undo.specs.Book.{Book, with_currency, with_thing, without_thing}
use Rattle.book_undo.specs.Edit.{edited}
use Rattle.book_undo.specs.declared.edit.Edit as edits
use Rattle.book_undo.specs.declared.thing.Thing.TheVariants as thing
use Rattle.book_undo.specs.declared.thing.ThingKind.TheVariants as kind
use Rattle.book_step.specs.Accounts.{account_drop_of, account_edit_at, add_rules, drop_rules, edit_rules}
use Rattle.book_step.specs.Accounts.{stays, with_given}
use Rattle.book_step.specs.Accounts.{unknown_account}
use Rattle.book_step.specs.AnswerBalances.{PutsAnswered, PutsUnder, balances_at, balances_of, with_balances}
use Rattle.book_step.specs.AnswerBalances.{without_balances}
use Rattle.book_step.specs.AutoMatching.{book_paired, match_rules, matches}
use Rattle.book_step.specs.BankLines.{in_state, is_open, line_dismiss_at, line_reopen_at, line_taken}
use Rattle.book_step.specs.Bindings as bindings
use Rattle.book_step.specs.Bindings.{account_rules, bind_at, binding_of}
use Rattle.book_step.specs.Commodities as commodities
use Rattle.book_step.specs.LineAdding.{book_matched, commodity_of, given_rules, line_add_at, line_transaction}
use Rattle.book_step.specs.LineAdding.{matched_answer}
use Rattle.book_step.specs.Importing as importing
use Rattle.book_step.specs.Importing.{added_by, adds_nothing, file_rules, import_answer, import_said}
use Rattle.book_step.specs.Importing.{room_rules, said}
use Rattle.book_step.specs.LineMatching as line_matching
use Rattle.book_step.specs.LineMatching.{line_match_at, line_match_of}
use Rattle.book_step.specs.Marking.{book_marked, keeps_mark, mark_asked, mark_at, mark_of}
use Rattle.book_step.specs.Outcome.{Outcome, Broken, Done, but_balances, changed, changing, leaving, numbers}
use Rattle.book_step.specs.Outcome.{unless_broken}
use Rattle.book_step.specs.Posting.{new_transaction, post_answer, post_rules}
use Rattle.book_step.specs.Editing as editing
use Rattle.book_step.specs.Editing.{book_with, book_without, drop_at, drawn_by, edit_answer, edit_at}
use Rattle.book_step.specs.Editing.{edited_transaction, reconciled}
use Rattle.book_step.specs.Prices.{has_numbers, price_of_day, price_rules, price_set_at, too_many_prices}
use Rattle.book_step.specs.Prices.{unknown_price}
use Rattle.book_sound.specs.ReconciliationRules.{marked_numbers}
use Rattle.book_statement.specs.declared.held.Held.{Held}
use Rattle.book_step.specs.Reconciling.{book_reconciled, finish_rules, finished, reconcile_at, reconcile_closed}
use Rattle.book_step.specs.Reconciling.{reconcile_of}
use Rattle.book_step.specs.SameTransaction.{same_transaction}
use Rattle.book_step.specs.SameTransaction.{is_mark}
use Rattle.book_step.specs.ScheduleRuns as schedule_runs
use Rattle.book_step.specs.ScheduleRuns.{asked, asked_rules, book_ran, made_by, schedule_run_of, too_many_made}
use Rattle.book_step.specs.ScheduleRuns.{too_many_splits_made}
use Rattle.book_step.specs.Schedules as schedules
use Rattle.book_step.specs.Schedules.{Run, new_schedule, runs_of, schedule_add_from, unknown_schedule}
use Rattle.book_step.specs.Soundness.{IsSound}
use Rattle.book_splits.proofs.ReplacedLemmas.{with_there}
use Rattle.book_step.specs.State.{State}
use Rattle.book_step.specs.Step.{outcome}
use Rattle.book_step.specs.VoidRules.{voided_transaction, not_voided, voided_transaction_of}
use Rattle.book_step.specs.Voiding.{book_restored, unvoid_at, void_at}
use Rattle.book_step.proofs.SoundOutcome.{unless_done}
use Rattle.book_void.specs.Voiding.{voided_for}
use Rattle.book_command.specs.declared.answer.Answer.{Answer}
use Rattle.book_command.specs.declared.answer.Answer.TheVariants as answer
use Rattle.book_command.specs.declared.command.GivenAccount.{GivenAccount}
use Rattle.book_command.specs.declared.command.Update.{Update}
use Rattle.book_command.specs.declared.command.Update.TheVariants.{BookCurrency, CommodityAdd, AccountAdd}
use Rattle.book_command.specs.declared.command.Update.TheVariants.{AccountEdit, AccountDrop, Drop, Edit, Post, Unvoid, Void}
use Rattle.book_command.specs.declared.command.Update.TheVariants.{PriceDrop, PriceSet, ScheduleAdd, ScheduleDrop}
use Rattle.book_command.specs.declared.command.Update.TheVariants.{ScheduleRun}
use Rattle.book_command.specs.declared.command.Update.TheVariants.{LineAdd}
use Rattle.book_command.specs.declared.command.GivenOther.{GivenOther}
use Rattle.book_command.specs.declared.command.Update.TheVariants.{Bind, LineDismiss, LineReopen}
use Rattle.book_command.specs.declared.command.Update.TheVariants.{Import}
use Rattle.book_command.specs.declared.command.Update.TheVariants.{Mark as MarkAsked}
use Rattle.book_command.specs.declared.command.Update.TheVariants.{LineMatch}
use Rattle.book_command.specs.declared.command.Update.TheVariants.{MatchAuto}
use Rattle.book_command.specs.declared.command.Update.TheVariants.{Reconcile, ReconcileStatement}
use Rattle.book_command.specs.declared.command.GivenSchedule.{GivenSchedule}
use Rattle.book_command.specs.declared.command.GivenTxn.{GivenTxn}
use Rattle.book_command.specs.declared.rule.Rule.{Rule}
use Rattle.book_command.specs.declared.rule.Rule.TheVariants.{BadStatement}

-- What an answer with balances says of the states before and after it: a transaction was put under its number, and the
-- balances are those after it.
abbrev pub HasPut : State → State → ℕ → List ℤ → Type 0
HasPut old new n balances =
    (Rises old.book.transactions
    → (transaction : Txn) × (new.book.transactions ≡ with_entry n transaction old.book.transactions))
    × (balances ≡ balances_of new.book n)

-- The answers to a post and to an edit have balances, and no other.
abbrev pub HasBalances : State → State → Answer → Type 0
HasBalances old new (answer.Post n splits balances) = HasPut old new n balances
HasBalances old new (answer.Edit n splits balances) = HasPut old new n balances
HasBalances old new _ = ⊤

-- ---- what a command is answered that breaks no rule
unless_answered :
    (rule : Option Rule) (state new : State) (given answer : Answer)
    → unless_broken rule (Done state given) ≡ Done new answer
    → (state ≡ new) × (given ≡ answer)
unless_answered None state new given answer e = (cc, cc)
unless_answered (Some rule) state new given answer e = absurd cc

changing_answered :
    (state : State) (rules : List (Option Rule)) (book : Book) (drawn : ℕ) (given : Answer) (new : State)
    (answer : Answer)
    → HasBalances state (changed state book drawn) given
    → changing state rules book drawn given ≡ Done new answer → HasBalances state new answer
changing_answered state rules book drawn given new answer has e =
    let both = unless_answered (first_broken (rules ++ numbers state drawn ∷ []))
    (changed state book drawn) new given answer e in
    subst (λ (a : Answer). HasBalances state new a) both.1
    (subst (λ (s : State). HasBalances state s given) both.0 has)

leaving_answered :
    (state : State) (rules : List (Option Rule)) (given : Answer) (new : State) (answer : Answer)
    → HasBalances state state given → leaving state rules given ≡ Done new answer → HasBalances state new answer
leaving_answered state rules given new answer has e =
    let both = unless_answered (first_broken rules) state new given answer e in
    subst (λ (a : Answer). HasBalances state new a) both.1
    (subst (λ (s : State). HasBalances state s given) both.0 has)

either_answered :
    (stay : Bool) (state : State) (rules : List (Option Rule)) (book : Book) (given : Answer) (new : State)
    (answer : Answer)
    → ((s : State) → HasBalances state s given)
    → (if stay then leaving state rules given else changing state rules book 0 given) ≡ Done new answer
    → HasBalances state new answer
either_answered true state rules book given new answer has e = leaving_answered state rules given new answer
    (has state) e
either_answered false state rules book given new answer has e = changing_answered state rules book 0 given new
    answer (has (changed state book 0)) e

edit_answered : (state : State) (n : ℕ) (given : GivenAccount) (found : Option Account) (new : State)
    (reply : Answer) → account_edit_at state n given found ≡ Done new reply → HasBalances state new reply
edit_answered state n given None new reply e = absurd cc
edit_answered state n given (Some old) new reply e =
    either_answered (stays old given).is state (edit_rules state.book n given.parent old (with_given old given))
    (with_thing n (thing.Account (with_given old given)) state.book) answer.AccountEdit new reply (λ s. tt) e

drop_answered : (state : State) (n : ℕ) (found : Option Account) (new : State) (reply : Answer)
    → account_drop_of state n found ≡ Done new reply → HasBalances state new reply
drop_answered state n None new reply e = absurd cc
drop_answered state n (Some old) new reply e =
    changing_answered state (drop_rules state.book n old) (without_thing kind.Account n state.book) 0 answer.AccountDrop
    new reply tt e

given_answered :
    (state : State) (n : ℕ) (force : Bool) (day : ℤ) (given : GivenTxn) (found : Option Txn) (new : State)
    (reply : Answer)
    → value_of n state.book.transactions ≡ found → edit_at state n force day given found ≡ Done new reply
    → HasBalances state new reply
given_answered state n force day given None new reply there e = absurd cc
given_answered state n force day given (Some old) new reply there e =
    let ts = state.book.transactions in
    let transaction = edited_transaction old state.next day given in
    let book = book_with state.book n old transaction in
    let drawn = drawn_by old.splits given.splits in
    let rules = editing.edit_rules state.book n force given old transaction in
    let left = edit_answer state.book n transaction in
    let made = edit_answer book n transaction in
    let entries = with_entry n transaction ts in
    let done = unless_done (voided_transaction n old) (editing.edit_of state n force day given old) new reply e in
    let same = same_transaction transaction old in
    let Chosen : Bool → Type 0 = λ t. same.is ≡ t
    → (if t then leaving state rules left else changing state rules book drawn made) ≡ Done new reply
    → HasBalances state new reply in
    elim same.is as Chosen [
      | true ↦ λ stays done.
          let one : transaction ≡ old = same.decides.0 stays in
          let still = there ∙ ap (λ (t : Txn). Some t) (sym one) in
          leaving_answered state rules left new reply
          ((λ r. (transaction, sym (with_there n transaction ts r still))), ap (balances_at ts) (sym still)) done
      | false ↦ λ other done.
          changing_answered state rules book drawn made new reply
          ((λ r. (transaction, refl)), ap (balances_at entries) (sym (value_here n n transaction ts refl))) done
    ] refl done.1

taken_answered :
    (state : State) (n : ℕ) (force : Bool) (found : Option Txn) (new : State) (reply : Answer)
    → drop_at state n force found ≡ Done new reply → HasBalances state new reply
taken_answered state n force None new reply e = absurd cc
taken_answered state n force (Some old) new reply e =
    changing_answered state (voided_transaction n old ∷ reconciled force old.splits [] ∷ []) (book_without state.book n old) 0
    answer.Drop new reply tt e

voided_answered :
    (state : State) (n : ℕ) (reason : List ℕ) (force : Bool) (found : Option Txn) (new : State) (reply : Answer)
    → void_at state n reason force found ≡ Done new reply → HasBalances state new reply
voided_answered state n reason force None new reply e = absurd cc
voided_answered state n reason force (Some old) new reply e =
    changing_answered state (voided_transaction n old ∷ reconciled force old.splits [] ∷ [])
    (book_with state.book n old (voided_for reason old)) 0 answer.Void new reply tt e

restored_answered :
    (state : State) (n : ℕ) (found : Option Txn) (new : State) (reply : Answer)
    → unvoid_at state n found ≡ Done new reply → HasBalances state new reply
restored_answered state n None new reply e = absurd cc
restored_answered state n (Some old) new reply e =
    changing_answered state (not_voided n old ∷ []) (book_restored state.book n old) 0 answer.Unvoid new reply tt e

priced_answered :
    (state : State) (price : Price) (found : Option (ℕ × Price)) (new : State) (reply : Answer)
    → price_set_at state price found ≡ Done new reply → HasBalances state new reply
priced_answered state price None new reply e =
    changing_answered state (price_rules state.book price ++ too_many_prices state.book.prices ∷ [])
    (with_thing state.next (thing.Price price) state.book) 1 (answer.PriceSet state.next) new reply tt e
priced_answered state price (Some old) new reply e =
    either_answered (has_numbers old.1 price) state (price_rules state.book price)
    (with_thing old.0 (thing.Price price) state.book) (answer.PriceSet old.0) new reply (λ s. tt) e

scheduled_answered :
    (state : State) (given : GivenSchedule) (rs : List Recurrence) (new : State) (reply : Answer)
    → schedule_add_from state given rs ≡ Done new reply → HasBalances state new reply
scheduled_answered state given [] new reply e = absurd cc
scheduled_answered state given (first ∷ more) new reply e =
    let schedule = new_schedule first.start given in
    changing_answered state (schedules.add_rules state.book schedule)
    (with_thing state.next (thing.Schedule schedule) state.book) 1 (answer.ScheduleAdd state.next) new reply tt e

ran_answered :
    (state : State) (rules : List (Option Rule)) (runs : List Run) (new : State) (reply : Answer)
    → schedule_run_of state rules runs ≡ Done new reply → HasBalances state new reply
ran_answered state rules [] new reply e = leaving_answered state rules (answer.ScheduleRun []) new reply tt e
ran_answered state rules (run ∷ more) new reply e =
    let runs = run ∷ more in
    changing_answered state
    (rules ++ too_many_made state.book runs ∷ too_many_splits_made state.book runs ∷ [])
    (book_ran state.book state.next runs) (schedule_runs.drawn_by runs)
    (answer.ScheduleRun (map (λ (entry : ℕ × Txn). entry.0) (made_by state.next runs))) new reply tt e

added_answered :
    (state : State) (n : ℕ) (others : List GivenOther) (description : Option (List ℕ)) (found : Option Line)
    (new : State) (reply : Answer)
    → line_add_at state n others description found ≡ Done new reply → HasBalances state new reply
added_answered state n others description None new reply e = absurd cc
added_answered state n others description (Some line) new reply e =
    let book = state.book in
    let commodity = commodity_of (value_of line.account book.accounts) in
    let transaction = line_transaction state.next commodity line others description in
    changing_answered state (given_rules book.accounts n line commodity others ++ post_rules book transaction)
    (book_matched book state.next transaction n line) (1 + length transaction.splits)
    (matched_answer state.next transaction) new reply tt e

bound_answered :
    (state : State) (binding : Binding) (found : Option (ℕ × Binding)) (new : State) (reply : Answer)
    → bind_at state binding found ≡ Done new reply → HasBalances state new reply
bound_answered state binding None new reply e =
    changing_answered state (bindings.new_rules state.book binding.account)
    (with_thing state.next (thing.Binding binding) state.book) 1 answer.Bind new reply tt e
bound_answered state binding (Some old) new reply e =
    either_answered (old.1.account == binding.account) state (account_rules state.book.accounts binding.account)
    (with_thing old.0 (thing.Binding binding) state.book) answer.Bind new reply (λ s. tt) e

dismissed_answered :
    (state : State) (n : ℕ) (found : Option Line) (new : State) (reply : Answer)
    → line_dismiss_at state n found ≡ Done new reply → HasBalances state new reply
dismissed_answered state n None new reply e = absurd cc
dismissed_answered state n (Some line) new reply e =
    changing_answered state (line_taken n line ∷ [])
    (with_thing n (thing.Line (in_state line Dismissed)) state.book) 0 answer.LineDismiss new reply tt e

reopened_answered :
    (state : State) (n : ℕ) (found : Option Line) (new : State) (reply : Answer)
    → line_reopen_at state n found ≡ Done new reply → HasBalances state new reply
reopened_answered state n None new reply e = absurd cc
reopened_answered state n (Some line) new reply e =
    either_answered (is_open line.state) state [] (with_thing n (thing.Line (in_state line Open)) state.book)
    answer.LineReopen new reply (λ s. tt) e

adding_answered :
    (nothing : Bool) (state : State) (rules : List (Option Rule)) (added : Additions) (new : State) (reply : Answer)
    → (if nothing then leaving state rules (import_answer added)
    else changing state rules (importing.book_with state.book added) (importing.drawn_by added) (import_answer added))
    ≡ Done new reply → HasBalances state new reply
adding_answered true state rules added new reply e =
    leaving_answered state rules (import_answer added) new reply tt e
adding_answered false state rules added new reply e =
    changing_answered state rules (importing.book_with state.book added) (importing.drawn_by added) (import_answer added) new
    reply tt e

imported_answered :
    (state : State) (rules : List (Option Rule)) (given : Option ℕ) (says : Result (List Statement) StatementFault)
    (new : State) (reply : Answer) → import_said state rules given says ≡ Done new reply
    → HasBalances state new reply
imported_answered state rules given (Err fault) new reply e = go (first_broken rules) e
  where
    go : (broken : Option Rule) → unless_broken broken (Broken (BadStatement fault)) ≡ Done new reply
        → HasBalances state new reply
    go None e = absurd cc
    go (Some rule) e = absurd cc
imported_answered state rules given (Ok statements) new reply e =
    let added = added_by state given statements in
    adding_answered (adds_nothing added) state
    ((rules ++ file_rules state.book given statements) ++ room_rules state.book added) added new reply e

reconciled_answered :
    (state : State) (rules : List (Option Rule)) (answers : ℕ → List ℕ → Answer) (account : ℕ) (day closing : ℤ)
    (new : State) (reply : Answer) → ((s : State) (n : ℕ) (marked : List ℕ) → HasBalances state s (answers n marked))
    → reconcile_of state rules answers account day closing ≡ Done new reply → HasBalances state new reply
reconciled_answered state rules answers account day closing new reply has e =
    let book = state.book in
    let recon = finished book account day closing in
    let later = book_reconciled book state.next recon in
    let numbers = marked_numbers recon.marked in
    changing_answered state (rules ++ finish_rules book account day closing) later 1 (answers state.next numbers) new
    reply (has (changed state later 1) state.next numbers) e

closed_answered :
    (state : State) (n : ℕ) (statement : Held) (closing : Option ℤ) (new : State) (reply : Answer)
    → reconcile_closed state n statement closing ≡ Done new reply → HasBalances state new reply
closed_answered state n statement None new reply e = absurd cc
closed_answered state n statement (Some closing) new reply e =
    reconciled_answered state [] (λ number marked. answer.ReconcileStatement number marked) statement.account
    statement.day closing new reply (λ s number marked. tt) e

statement_answered :
    (state : State) (n : ℕ) (found : Option Held) (new : State) (reply : Answer)
    → reconcile_at state n found ≡ Done new reply → HasBalances state new reply
statement_answered state n None new reply e = absurd cc
statement_answered state n (Some statement) new reply e =
    closed_answered state n statement statement.closing new reply e

marked_answered :
    (state : State) (number : ℕ) (to : Mark) (force : Bool) (found : Option Split) (new : State) (reply : Answer)
    → mark_at state number to force found ≡ Done new reply → HasBalances state new reply
marked_answered state number to force None new reply e = absurd cc
marked_answered state number to force (Some split) new reply e =
    let done = unless_done (voided_transaction_of state.book.transactions number) (mark_of state number to force split) new reply
    e in
    either_answered (is_mark split.mark to) state (keeps_mark force number split ∷ []) (book_marked number to state.book)
    answer.Mark new reply (λ s. tt) done.1

paired_answered :
    (state : State) (n : ℕ) (line : Line) (wanted : ℕ) (found : Option Split) (new : State) (reply : Answer)
    → line_match_of state n line wanted found ≡ Done new reply → HasBalances state new reply
paired_answered state n line wanted None new reply e = absurd cc
paired_answered state n line wanted (Some split) new reply e =
    let rules = line_matching.match_rules state.book.lines n line wanted split in
    let later = line_matching.book_paired n line wanted split state.book in
    let done = unless_done (voided_transaction_of state.book.transactions wanted) (changing state rules later 0 answer.LineMatch) new
    reply e in
    changing_answered state rules later 0 answer.LineMatch new reply tt done.1

matched_answered :
    (state : State) (n wanted : ℕ) (found : Option Line) (new : State) (reply : Answer)
    → line_match_at state n wanted found ≡ Done new reply → HasBalances state new reply
matched_answered state n wanted None new reply e = absurd cc
matched_answered state n wanted (Some line) new reply e =
    paired_answered state n line wanted (split_at wanted state.book.transactions) new reply e

answered : (state : State) (update : Update) (new : State) (reply : Answer) → outcome state update ≡ Done new reply
    → HasBalances state new reply
answered state (BookCurrency commodity) new reply e =
    either_answered (commodity == state.book.currency) state (commodities.currency_rules state.book commodity)
    (with_currency commodity state.book) answer.BookCurrency new reply (λ s. tt) e
answered state (CommodityAdd commodity) new reply e =
    changing_answered state (commodities.add_rules state.book commodity)
    (with_thing state.next (thing.Commodity commodity) state.book) 1 (answer.CommodityAdd state.next) new reply tt e
answered state (AccountAdd account) new reply e =
    changing_answered state (add_rules state.book account)
    (with_thing state.next (thing.Account account) state.book) 1 (answer.AccountAdd state.next) new reply tt e
answered state (AccountEdit account given) new reply e = edit_answered state account given
    (value_of account state.book.accounts) new reply e
answered state (AccountDrop account) new reply e = drop_answered state account
    (value_of account state.book.accounts) new reply e
answered state (Post day given) new reply e =
    let transaction = new_transaction state.next day given in
    let book = with_thing state.next (thing.Txn transaction) state.book in
    let entries = with_entry state.next transaction state.book.transactions in
    let here = value_here state.next state.next transaction state.book.transactions refl in
    changing_answered state (post_rules state.book transaction) book (1 + length transaction.splits)
    (post_answer book state.next transaction) new reply
    ((λ r. (transaction, refl)), ap (balances_at entries) (sym here)) e
answered state (Edit n force day given) new reply e =
    given_answered state n force day given (value_of n state.book.transactions) new reply refl e
answered state (Drop n force) new reply e =
    taken_answered state n force (value_of n state.book.transactions) new reply e
answered state (Void n reason force) new reply e =
    voided_answered state n reason force (value_of n state.book.transactions) new reply e
answered state (Unvoid n) new reply e = restored_answered state n (value_of n state.book.transactions) new reply e
answered state (PriceSet price) new reply e =
    priced_answered state price (price_of_day state.book.prices price) new reply e
answered state (PriceDrop n) new reply e =
    changing_answered state (unknown_price state.book.prices n ∷ []) (without_thing kind.Price n state.book) 0
    answer.PriceDrop new reply tt e
answered state (ScheduleAdd given) new reply e = scheduled_answered state given given.recurrences new reply e
answered state (ScheduleDrop n) new reply e =
    changing_answered state (unknown_schedule state.book.schedules n ∷ [])
    (without_thing kind.Schedule n state.book) 0 answer.ScheduleDrop new reply tt e
answered state (ScheduleRun upto only) new reply e =
    ran_answered state (asked_rules state upto only) (runs_of upto (asked only state.book.schedules)) new reply e
answered state (LineAdd n others description) new reply e =
    added_answered state n others description (value_of n state.book.lines) new reply e
answered state (Bind binding) new reply e =
    bound_answered state binding (binding_of binding.text state.book.bindings) new reply e
answered state (LineDismiss n) new reply e = dismissed_answered state n (value_of n state.book.lines) new reply e
answered state (LineReopen n) new reply e = reopened_answered state n (value_of n state.book.lines) new reply e
answered state (Import format text account) new reply e =
    imported_answered state (importing.given_rules state.book format account) account (said state.book.commodities text format)
    new reply e
answered state (MarkAsked split cleared force) new reply e =
    marked_answered state split (mark_asked cleared) force (split_at split state.book.transactions) new reply e
answered state (LineMatch line split) new reply e =
    matched_answered state line split (value_of line state.book.lines) new reply e
answered state (Reconcile account day closing) new reply e =
    reconciled_answered state (unknown_account state.book.accounts account ∷ [])
    (λ number marked. answer.Reconcile number marked) account day closing new reply (λ s number marked. tt) e
answered state (ReconcileStatement statement) new reply e =
    statement_answered state statement (value_of statement state.book.statements) new reply e
answered state (MatchAuto account window) new reply e =
    let pairs = matches state.book account window in
    either_answered (length pairs == 0) state (match_rules state.book account window) (book_paired pairs state.book)
    (answer.MatchAuto pairs) new reply (λ s. tt) e

-- ---- answers with and without balances
filled : (old new : State) (whole : Answer) → HasBalances old new whole → with_balances new.book whole ≡ whole
filled old new answer.BookCurrency has = refl
filled old new (answer.CommodityAdd n) has = refl
filled old new (answer.AccountAdd n) has = refl
filled old new answer.AccountEdit has = refl
filled old new answer.AccountDrop has = refl
filled old new (answer.Post n splits balances) has = ap (λ (bs : List ℤ). answer.Post n splits bs) (sym has.1)
filled old new (answer.Edit n splits balances) has = ap (λ (bs : List ℤ). answer.Edit n splits bs) (sym has.1)
filled old new answer.Drop has = refl
filled old new answer.Void has = refl
filled old new answer.Unvoid has = refl
filled old new answer.Mark has = refl
filled old new (answer.PriceSet n) has = refl
filled old new answer.PriceDrop has = refl
filled old new (answer.Price rate) has = refl
filled old new (answer.Register text) has = refl
filled old new (answer.Trial text) has = refl
filled old new (answer.Sheet text) has = refl
filled old new (answer.Income text) has = refl
filled old new (answer.Lots text) has = refl
filled old new (answer.Gains gain) has = refl
filled old new (answer.ScheduleAdd n) has = refl
filled old new answer.ScheduleDrop has = refl
filled old new (answer.ScheduleRun ns) has = refl
filled old new answer.Bind has = refl
filled old new (answer.Import statements lines seen) has = refl
filled old new answer.LineMatch has = refl
filled old new (answer.LineAdd n splits) has = refl
filled old new answer.LineDismiss has = refl
filled old new answer.LineReopen has = refl
filled old new (answer.MatchAuto pairs) has = refl
filled old new (answer.Reconcile n marked) has = refl
filled old new (answer.ReconcileStatement n marked) has = refl
filled old new (answer.Lines lines) has = refl
filled old new (answer.Statements statements) has = refl
filled old new (answer.Recons recons) has = refl
filled old new (answer.Voided voided) has = refl
filled old new (answer.Due days) has = refl
filled old new answer.Undo has = refl
filled old new answer.Redo has = refl
filled old new (answer.Status accounts later lines past recons splits transactions) has = refl

filled_again : (book : Book) (whole : Answer) → with_balances book (without_balances whole) ≡ with_balances book whole
filled_again book answer.BookCurrency = refl
filled_again book (answer.CommodityAdd n) = refl
filled_again book (answer.AccountAdd n) = refl
filled_again book answer.AccountEdit = refl
filled_again book answer.AccountDrop = refl
filled_again book (answer.Post n splits balances) = refl
filled_again book (answer.Edit n splits balances) = refl
filled_again book answer.Drop = refl
filled_again book answer.Void = refl
filled_again book answer.Unvoid = refl
filled_again book answer.Mark = refl
filled_again book (answer.PriceSet n) = refl
filled_again book answer.PriceDrop = refl
filled_again book (answer.Price rate) = refl
filled_again book (answer.Register text) = refl
filled_again book (answer.Trial text) = refl
filled_again book (answer.Sheet text) = refl
filled_again book (answer.Income text) = refl
filled_again book (answer.Lots text) = refl
filled_again book (answer.Gains gain) = refl
filled_again book (answer.ScheduleAdd n) = refl
filled_again book answer.ScheduleDrop = refl
filled_again book (answer.ScheduleRun ns) = refl
filled_again book answer.Bind = refl
filled_again book (answer.Import statements lines seen) = refl
filled_again book answer.LineMatch = refl
filled_again book (answer.LineAdd n splits) = refl
filled_again book answer.LineDismiss = refl
filled_again book answer.LineReopen = refl
filled_again book (answer.MatchAuto pairs) = refl
filled_again book (answer.Reconcile n marked) = refl
filled_again book (answer.ReconcileStatement n marked) = refl
filled_again book (answer.Lines lines) = refl
filled_again book (answer.Statements statements) = refl
filled_again book (answer.Recons recons) = refl
filled_again book (answer.Voided voided) = refl
filled_again book (answer.Due days) = refl
filled_again book answer.Undo = refl
filled_again book answer.Redo = refl
filled_again book (answer.Status accounts later lines past recons splits transactions) = refl

-- An outcome but for its balances is one with balances.
pub whole_of : (given : Outcome) (new : State) (short : Answer) → but_balances given ≡ Done new short
    → (whole : Answer) × (given ≡ Done new whole) × (without_balances whole ≡ short)
whole_of (Broken rule) new short e = absurd cc
whole_of (Done state whole) new short e =
    let same : state ≡ new = cc in
    let left : without_balances whole ≡ short = cc in
    (whole, ap (λ (s : State). Done s whole) same, left)

-- The answer to a change is what its step answers, with the balances of the new book.
pub whole_outcome :
    (state : State) (update : Update) (new : State) (short : Answer)
    → but_balances (outcome state update) ≡ Done new short
    → outcome state update ≡ Done new (with_balances new.book short)
whole_outcome state update new short e =
    let w = whole_of (outcome state update) new short e in
    let same : with_balances new.book short ≡ w.0 = ap (with_balances new.book) (sym w.2)
    ∙ filled_again new.book w.0 ∙ filled state new w.0 (answered state update new w.0 w.1) in
    w.1 ∙ ap (λ (a : Answer). Done new a) (sym same)

-- ---- what an edit puts
puts :
    (state new : State) (change : edits.Edit) (n : ℕ) (balances : List ℤ) → IsSound state
    → new.book ≡ edited change state.book → HasPut state new n balances → PutsUnder state.book change n
puts state new change n balances is book has =
    let put = has.0 is.book.transactions.rise in
    (put.0, ap (λ (b : Book). b.transactions) (sym book) ∙ put.1)

puts_whole :
    (state new : State) (change : edits.Edit) (whole : Answer) → IsSound state → new.book ≡ edited change state.book
    → HasBalances state new whole
    → PutsAnswered state.book change (without_balances whole)
puts_whole state new change answer.BookCurrency is book has = tt
puts_whole state new change (answer.CommodityAdd n) is book has = tt
puts_whole state new change (answer.AccountAdd n) is book has = tt
puts_whole state new change answer.AccountEdit is book has = tt
puts_whole state new change answer.AccountDrop is book has = tt
puts_whole state new change (answer.Post n splits balances) is book has = puts state new change n balances is book has
puts_whole state new change (answer.Edit n splits balances) is book has = puts state new change n balances is book has
puts_whole state new change answer.Drop is book has = tt
puts_whole state new change answer.Void is book has = tt
puts_whole state new change answer.Unvoid is book has = tt
puts_whole state new change answer.Mark is book has = tt
puts_whole state new change (answer.PriceSet n) is book has = tt
puts_whole state new change answer.PriceDrop is book has = tt
puts_whole state new change (answer.Price rate) is book has = tt
puts_whole state new change (answer.Register text) is book has = tt
puts_whole state new change (answer.Trial text) is book has = tt
puts_whole state new change (answer.Sheet text) is book has = tt
puts_whole state new change (answer.Income text) is book has = tt
puts_whole state new change (answer.Lots text) is book has = tt
puts_whole state new change (answer.Gains gain) is book has = tt
puts_whole state new change (answer.ScheduleAdd n) is book has = tt
puts_whole state new change answer.ScheduleDrop is book has = tt
puts_whole state new change (answer.ScheduleRun ns) is book has = tt
puts_whole state new change answer.Bind is book has = tt
puts_whole state new change (answer.Import statements lines seen) is book has = tt
puts_whole state new change answer.LineMatch is book has = tt
puts_whole state new change (answer.LineAdd n splits) is book has = tt
puts_whole state new change answer.LineDismiss is book has = tt
puts_whole state new change answer.LineReopen is book has = tt
puts_whole state new change (answer.MatchAuto pairs) is book has = tt
puts_whole state new change (answer.Reconcile n marked) is book has = tt
puts_whole state new change (answer.ReconcileStatement n marked) is book has = tt
puts_whole state new change (answer.Lines lines) is book has = tt
puts_whole state new change (answer.Statements statements) is book has = tt
puts_whole state new change (answer.Recons recons) is book has = tt
puts_whole state new change (answer.Voided voided) is book has = tt
puts_whole state new change (answer.Due days) is book has = tt
puts_whole state new change answer.Undo is book has = tt
puts_whole state new change answer.Redo is book has = tt
puts_whole state new change (answer.Status accounts later lines past recons splits transactions) is book has = tt

-- Where a step answers with balances, its edit puts the answer's transaction.
pub puts_answered :
    (state : State) (update : Update) (new : State) (change : edits.Edit) (short : Answer) → IsSound state
    → new.book ≡ edited change state.book
    → but_balances (outcome state update) ≡ Done new short → PutsAnswered state.book change short
puts_answered state update new change short is book e =
    let w = whole_of (outcome state update) new short e in
    subst (λ (a : Answer). PutsAnswered state.book change a) w.2
    (puts_whole state new change w.0 is book (answered state update new w.0 w.1))
