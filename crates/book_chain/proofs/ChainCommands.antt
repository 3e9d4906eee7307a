-- Each command leaves the reconciliations of the book, and makes no split one that they marked; or it is a
-- reconciliation.
use Rattle.std.proofs.Common.{◌≡◌, inl, inr, ℕ, ℤ, pos, ◌+◌, ◌==◌, Bool, true, false, if◌then◌else◌, List, [], ◌∷◌}
use Rattle.std.proofs.Common.{◌++◌, length, map, Option, Some, None, Ok, Err, Result, refl, ap}
use Rattle.std.proofs.lemmas.Bool.{not-false}
use Rattle.std.proofs.lemmas.Bool.Decides.{Decides-int_eq}
use Rattle.book_commodity.specs.Rules.{first_broken}
use Rattle.book_commodity.specs.Table.{value_of}
use Rattle.book_commodity.proofs.RuleLemmas.{kept_back, not-broken}
use Rattle.book_accounts.specs.declared.account.Account.{Account}
use Rattle.book_prices.specs.declared.price.Price.{Price}
use Rattle.book_schedule.specs.declared.recurrence.Recurrence.{Recurrence}
use Rattle.book_splits.specs.declared.split.Mark.{Mark as SplitMark}
use Rattle.book_splits.specs.declared.split.Mark.TheVariants.{New, Cleared}
use Rattle.book_splits.specs.declared.split.Split.{Split}
use Rattle.book_splits.specs.declared.transaction.Txn.{Txn}
use Rattle.book_statement.specs.declared.binding.Binding.{Binding}
use Rattle.book_statement.specs.declared.fault.StatementFault.{StatementFault}
use Rattle.book_statement.specs.declared.held.Held.{Held}
use Rattle.book_statement.specs.declared.line.Line.{Line}
use Rattle.book_statement.specs.declared.line_state.LineState.TheVariants.{Open, Dismissed}
use Rattle.book_statement.specs.declared.statement.Statement.{Statement}
use Rattle.book_match.specs.declared.views.Matched.{Matched as Pair}
use Rattle.book_undo.specs.Book.{Book, with_currency, with_thing, without_thing}
use Rattle.book_undo.specs.declared.thing.Thing.TheVariants as thing
use Rattle.book_undo.specs.declared.thing.ThingKind.TheVariants as thing_kind
use Rattle.book_reconcile.specs.Reconciliation.{difference}
use Rattle.book_sound.specs.LineRules.{split_at}
use Rattle.book_sound.specs.MarkedTransactionRules.{is_reconciled}
use Rattle.book_sound.specs.ReconciliationRules.{marked_numbers}
use Rattle.book_void.specs.Voiding.{voided_for}
use Rattle.book_import.specs.declared.added.Additions.{Additions}
use Rattle.book_command.specs.declared.answer.Answer.{Answer}
use Rattle.book_command.specs.declared.answer.Answer.TheVariants as answer
use Rattle.book_command.specs.declared.command.GivenAccount.{GivenAccount}
use Rattle.book_command.specs.declared.command.GivenOther.{GivenOther}
use Rattle.book_command.specs.declared.command.GivenSchedule.{GivenSchedule}
use Rattle.book_command.specs.declared.command.GivenTxn.{GivenTxn}
use Rattle.book_command.specs.declared.command.Update.{Update}
use Rattle.book_command.specs.declared.command.Update.TheVariants.{BookCurrency, CommodityAdd, AccountAdd, AccountEdit}
use Rattle.book_command.specs.declared.command.Update.TheVariants.{AccountDrop, Drop, Edit, Post, Unvoid, Void}
use Rattle.book_command.specs.declared.command.Update.TheVariants.{PriceDrop, PriceSet, ScheduleAdd, ScheduleDrop}
use Rattle.book_command.specs.declared.command.Update.TheVariants.{ScheduleRun}
use Rattle.book_command.specs.declared.command.Update.TheVariants.{LineAdd}
use Rattle.book_command.specs.declared.command.Update.TheVariants.{Bind, LineDismiss, LineReopen}
use Rattle.book_command.specs.declared.command.Update.TheVariants.{Import}
use Rattle.book_command.specs.declared.command.Update.TheVariants.{Mark}
use Rattle.book_command.specs.declared.command.Update.TheVariants.{LineMatch}
use Rattle.book_command.specs.declared.command.Update.TheVariants.{MatchAuto}
use Rattle.book_command.specs.declared.command.Update.TheVariants.{Reconcile, ReconcileStatement}
use Rattle.book_command.specs.declared.rule.Rule.{Rule}
use Rattle.book_command.specs.declared.rule.Rule.TheVariants.{BadStatement}
use Rattle.book_step.specs.Accounts as accounts
use Rattle.book_step.specs.AutoMatching as auto
use Rattle.book_step.specs.BankLines.{in_state, is_open, line_dismiss_at, line_reopen_at, line_taken}
use Rattle.book_step.specs.Bindings as bindings
use Rattle.book_step.specs.Commodities as commodities
use Rattle.book_step.specs.Editing as editing
use Rattle.book_step.specs.Importing as importing
use Rattle.book_step.specs.LineAdding as line_adding
use Rattle.book_step.specs.LineMatching as matching
use Rattle.book_step.specs.Marking as marking
use Rattle.book_step.specs.Outcome.{Broken, Done, changing}
use Rattle.book_step.specs.Posting.{new_transaction, post_answer, post_rules}
use Rattle.book_step.specs.Prices as prices
use Rattle.book_step.specs.Reconciling as reconciling
use Rattle.book_step.specs.SameTransaction.{is_mark, same_transaction}
use Rattle.book_step.specs.ScheduleRuns as runs
use Rattle.book_step.specs.Schedules as schedules
use Rattle.book_step.specs.State.{State}
use Rattle.book_step.specs.Step.{outcome}
use Rattle.book_step.specs.VoidRules.{voided_transaction, not_voided, voided_transaction_of}
use Rattle.book_step.specs.Voiding as voiding
use Rattle.book_step.proofs.SoundOutcome.{changing_done, unless_done}
use Rattle.book_chain.specs.Chain.{is_reconciling}
use Rattle.book_chain.proofs.ChainChanges.{Change, Finishes, Leaves, after-change, after-either, after-leaving}
use Rattle.book_chain.proofs.ChainChanges.{same-tables}
use Rattle.book_chain.proofs.KeptSplits.{clearing-makes, none-added, none-edited, none-left, none-marked, none-posted}
use Rattle.book_chain.proofs.KeptSplits.{none-remarked, none-restored, none-run, none-voided}

-- ---- commodities, accounts, prices

currency-leaves :
    (state : State) (commodity : ℕ) (new : State) (answered : Answer)
    → commodities.book_currency state commodity ≡ Done new answered → Leaves state.next state.book new.book
currency-leaves state commodity new answered e =
    let rules = commodities.currency_rules state.book commodity in
    let later = with_currency commodity state.book in
    after-either (commodity == state.book.currency) state rules rules later 0 answer.BookCurrency answer.BookCurrency
    new answered (same-tables state.next state.book later refl refl) e

account_edit-leaves :
    (state : State) (n : ℕ) (given : GivenAccount) (found : Option Account) (new : State) (answered : Answer)
    → accounts.account_edit_at state n given found ≡ Done new answered → Leaves state.next state.book new.book
account_edit-leaves state n given None new answered e = absurd cc
account_edit-leaves state n given (Some old) new answered e =
    let account = accounts.with_given old given in
    let rules = accounts.edit_rules state.book n given.parent old account in
    let later = with_thing n (thing.Account account) state.book in
    after-either (accounts.stays old given).is state rules rules later 0 answer.AccountEdit answer.AccountEdit new
    answered (same-tables state.next state.book later refl refl) e

account_drop-leaves :
    (state : State) (n : ℕ) (found : Option Account) (new : State) (answered : Answer)
    → accounts.account_drop_of state n found ≡ Done new answered → Leaves state.next state.book new.book
account_drop-leaves state n None new answered e = absurd cc
account_drop-leaves state n (Some account) new answered e =
    let later = without_thing thing_kind.Account n state.book in
    after-change state (accounts.drop_rules state.book n account) later 0 answer.AccountDrop new answered
    (same-tables state.next state.book later refl refl) e

price_set-leaves :
    (state : State) (price : Price) (found : Option (ℕ × Price)) (new : State) (answered : Answer)
    → prices.price_set_at state price found ≡ Done new answered → Leaves state.next state.book new.book
price_set-leaves state price None new answered e =
    let rules = prices.price_rules state.book price ++ prices.too_many_prices state.book.prices ∷ [] in
    let later = with_thing state.next (thing.Price price) state.book in
    after-change state rules later 1 (answer.PriceSet state.next) new answered
    (same-tables state.next state.book later refl refl) e
price_set-leaves state price (Some old) new answered e =
    let rules = prices.price_rules state.book price in
    let later = with_thing old.0 (thing.Price price) state.book in
    after-either (prices.has_numbers old.1 price) state rules rules later 0 (answer.PriceSet old.0)
    (answer.PriceSet old.0) new answered (same-tables state.next state.book later refl refl) e

-- ---- transactions

post-leaves :
    (state : State) (day : ℤ) (given : GivenTxn) (new : State) (answered : Answer)
    → outcome state (Post day given) ≡ Done new answered → Leaves state.next state.book new.book
post-leaves state day given new answered e =
    let transaction = new_transaction state.next day given in
    let later = with_thing state.next (thing.Txn transaction) state.book in
    after-change state (post_rules state.book transaction) later (1 + length transaction.splits)
    (post_answer later state.next transaction) new answered (record {
      transactions = none-posted state.next state.next (state.next + 1) transaction given.splits
          state.book.transactions refl;
      reconciliations = refl;
    }) e

edit-leaves :
    (state : State) (n : ℕ) (force : Bool) (day : ℤ) (given : GivenTxn) (found : Option Txn) (new : State)
    (answered : Answer) → value_of n state.book.transactions ≡ found
    → editing.edit_at state n force day given found ≡ Done new answered → Leaves state.next state.book new.book
edit-leaves state n force day given None new answered there e = absurd cc
edit-leaves state n force day given (Some old) new answered there e =
    let edited = editing.edited_transaction old state.next day given in
    let rules = editing.edit_rules state.book n force given old edited in
    let later = editing.book_with state.book n old edited in
    let done = unless_done (voided_transaction n old) (editing.edit_of state n force day given old) new answered e in
    after-either (same_transaction edited old).is state rules rules later
    (editing.drawn_by old.splits given.splits) (editing.edit_answer state.book n edited)
    (editing.edit_answer later n edited) new answered
    (record {
      transactions = none-edited state.next n state.next old edited given.splits state.book.transactions there refl;
      reconciliations = refl;
    }) done.1

drop-leaves :
    (state : State) (n : ℕ) (force : Bool) (found : Option Txn) (new : State) (answered : Answer)
    → editing.drop_at state n force found ≡ Done new answered → Leaves state.next state.book new.book
drop-leaves state n force None new answered e = absurd cc
drop-leaves state n force (Some old) new answered e =
    let later = editing.book_without state.book n old in
    after-change state (voided_transaction n old ∷ editing.reconciled force old.splits [] ∷ []) later 0 answer.Drop new
    answered (record { transactions = none-left state.next n state.book.transactions; reconciliations = refl }) e

void-leaves :
    (state : State) (n : ℕ) (reason : List ℕ) (force : Bool) (found : Option Txn) (new : State) (answered : Answer)
    → voiding.void_at state n reason force found ≡ Done new answered → Leaves state.next state.book new.book
void-leaves state n reason force None new answered e = absurd cc
void-leaves state n reason force (Some old) new answered e =
    let later = editing.book_with state.book n old (voided_for reason old) in
    after-change state (voided_transaction n old ∷ editing.reconciled force old.splits [] ∷ []) later 0 answer.Void new
    answered (record {
      transactions = none-voided state.next n reason old state.book.transactions;
      reconciliations = refl;
    }) e

unvoid-leaves :
    (state : State) (n : ℕ) (found : Option Txn) (new : State) (answered : Answer)
    → voiding.unvoid_at state n found ≡ Done new answered → Leaves state.next state.book new.book
unvoid-leaves state n None new answered e = absurd cc
unvoid-leaves state n (Some old) new answered e =
    let later = voiding.book_restored state.book n old in
    let rules = not_voided n old ∷ [] in
    let change = changing_done state rules later 0 answer.Unvoid new answered e in
    after-change state rules later 0 answer.Unvoid new answered
    (record {
      transactions = none-restored state.next n old state.book.transactions (not-broken _ _ change.kept.0);
      reconciliations = refl;
    }) e

-- ---- schedules

schedule_add-leaves :
    (state : State) (given : GivenSchedule) (recurrences : List Recurrence) (new : State) (answered : Answer)
    → schedules.schedule_add_from state given recurrences ≡ Done new answered → Leaves state.next state.book new.book
schedule_add-leaves state given [] new answered e = absurd cc
schedule_add-leaves state given (first ∷ more) new answered e =
    let schedule = schedules.new_schedule first.start given in
    let later = with_thing state.next (thing.Schedule schedule) state.book in
    after-change state (schedules.add_rules state.book schedule) later 1 (answer.ScheduleAdd state.next) new answered
    (same-tables state.next state.book later refl refl) e

schedule_run-leaves :
    (state : State) (rules : List (Option Rule)) (ran : List schedules.Run) (new : State) (answered : Answer)
    → runs.schedule_run_of state rules ran ≡ Done new answered → Leaves state.next state.book new.book
schedule_run-leaves state rules [] new answered e =
    after-leaving state rules (answer.ScheduleRun []) new answered e
schedule_run-leaves state rules (run ∷ more) new answered e =
    let all = run ∷ more in
    let later = runs.book_ran state.book state.next all in
    after-change state
    (rules ++ runs.too_many_made state.book all ∷ runs.too_many_splits_made state.book all ∷ []) later
    (runs.drawn_by all)
    (answer.ScheduleRun (map (λ entry. entry.0) (runs.made_by state.next all))) new answered
    (record {
      transactions = none-run state.next state.next all state.book.transactions;
      reconciliations = refl;
    }) e

-- ---- bank statements

bind-leaves :
    (state : State) (binding : Binding) (found : Option (ℕ × Binding)) (new : State) (answered : Answer)
    → bindings.bind_at state binding found ≡ Done new answered → Leaves state.next state.book new.book
bind-leaves state binding None new answered e =
    let later = with_thing state.next (thing.Binding binding) state.book in
    after-change state (bindings.new_rules state.book binding.account) later 1 answer.Bind new answered
    (same-tables state.next state.book later refl refl) e
bind-leaves state binding (Some old) new answered e =
    let rules = bindings.account_rules state.book.accounts binding.account in
    let later = with_thing old.0 (thing.Binding binding) state.book in
    after-either (old.1.account == binding.account) state rules rules later 0 answer.Bind answer.Bind new answered
    (same-tables state.next state.book later refl refl) e

line_dismiss-leaves :
    (state : State) (n : ℕ) (found : Option Line) (new : State) (answered : Answer)
    → line_dismiss_at state n found ≡ Done new answered → Leaves state.next state.book new.book
line_dismiss-leaves state n None new answered e = absurd cc
line_dismiss-leaves state n (Some line) new answered e =
    after-change state (line_taken n line ∷ []) (with_thing n (thing.Line (in_state line Dismissed)) state.book) 0
    answer.LineDismiss new answered (same-tables state.next state.book
    (with_thing n (thing.Line (in_state line Dismissed)) state.book) refl refl) e

line_reopen-leaves :
    (state : State) (n : ℕ) (found : Option Line) (new : State) (answered : Answer)
    → line_reopen_at state n found ≡ Done new answered → Leaves state.next state.book new.book
line_reopen-leaves state n None new answered e = absurd cc
line_reopen-leaves state n (Some line) new answered e =
    after-either (is_open line.state) state [] [] (with_thing n (thing.Line (in_state line Open)) state.book) 0
    answer.LineReopen answer.LineReopen new answered (same-tables state.next state.book
    (with_thing n (thing.Line (in_state line Open)) state.book) refl refl) e

line_add-leaves :
    (state : State) (n : ℕ) (others : List GivenOther) (description : Option (List ℕ)) (found : Option Line)
    (new : State) (answered : Answer)
    → line_adding.line_add_at state n others description found ≡ Done new answered
    → Leaves state.next state.book new.book
line_add-leaves state n others description None new answered e = absurd cc
line_add-leaves state n others description (Some line) new answered e =
    let all = state.book.accounts in
    let commodity = line_adding.commodity_of (value_of line.account all) in
    let transaction = line_adding.line_transaction state.next commodity line others description in
    let rules = line_adding.given_rules all n line commodity others ++ post_rules state.book transaction in
    let later = line_adding.book_matched state.book state.next transaction n line in
    after-change state rules later (1 + length transaction.splits) (line_adding.matched_answer state.next transaction)
    new answered
    (record {
      transactions = none-added state.next state.next (state.next + 1) transaction line others
          state.book.transactions refl;
      reconciliations = refl;
    }) e

import_of-leaves :
    (state : State) (rules : List (Option Rule)) (added : Additions) (new : State) (answered : Answer)
    → importing.import_of state rules added ≡ Done new answered → Leaves state.next state.book new.book
import_of-leaves state rules added new answered e =
    let all = rules ++ importing.room_rules state.book added in
    after-either (importing.adds_nothing added) state all all (importing.book_with state.book added)
    (importing.drawn_by added) (importing.import_answer added) (importing.import_answer added) new answered
    (same-tables state.next state.book (importing.book_with state.book added) refl refl) e

import-leaves :
    (state : State) (rules : List (Option Rule)) (given : Option ℕ) (says : Result (List Statement) StatementFault)
    (new : State) (answered : Answer) → importing.import_said state rules given says ≡ Done new answered
    → Leaves state.next state.book new.book
import-leaves state rules given (Err fault) new answered e =
    absurd (let none = (unless_done (first_broken rules) (Broken (BadStatement fault)) new answered e).1 in cc)
import-leaves state rules given (Ok statements) new answered e =
    import_of-leaves state (rules ++ importing.file_rules state.book given statements)
    (importing.added_by state given statements) new answered e

-- ---- marks, matches and reconciliations

asked-open : (cleared : Bool) → is_reconciled (marking.mark_asked cleared) ≡ false
asked-open true = refl
asked-open false = refl

marked-leaves :
    (next n : ℕ) (mark : SplitMark) (book : Book) → is_reconciled mark ≡ false
    → Leaves next book (marking.book_marked n mark book)
marked-leaves next n mark book not_yet = record {
  transactions = none-marked next n mark book.transactions not_yet;
  reconciliations = refl;
}

mark-leaves :
    (state : State) (n : ℕ) (mark : SplitMark) (force : Bool) (found : Option Split) (new : State) (answered : Answer)
    → is_reconciled mark ≡ false → marking.mark_at state n mark force found ≡ Done new answered
    → Leaves state.next state.book new.book
mark-leaves state n mark force None new answered not_yet e = absurd cc
mark-leaves state n mark force (Some split) new answered not_yet e =
    let rules = marking.keeps_mark force n split ∷ [] in
    let later = marking.book_marked n mark state.book in
    let done = unless_done (voided_transaction_of state.book.transactions n) (marking.mark_of state n mark force split) new answered
    e in
    after-either (is_mark split.mark mark) state rules rules later 0 answer.Mark answer.Mark new answered
    (marked-leaves state.next n mark state.book not_yet) done.1

-- a book in which a split is cleared, or not, and a line is matched with it
paired-leaves :
    (clears : Bool) (next n wanted : ℕ) (line : Line) (book : Book)
    → Leaves next book (with_thing n (thing.Line (line_adding.matched_with wanted line))
    (if clears then marking.book_marked wanted Cleared book else book))
paired-leaves true next n wanted line book = record {
  transactions = none-marked next wanted Cleared book.transactions refl;
  reconciliations = refl;
}
paired-leaves false next n wanted line book =
    same-tables next book (with_thing n (thing.Line (line_adding.matched_with wanted line)) book) refl refl

pair-leaves :
    (state : State) (n : ℕ) (line : Line) (wanted : ℕ) (found : Option Split) (new : State) (answered : Answer)
    → matching.line_match_of state n line wanted found ≡ Done new answered → Leaves state.next state.book new.book
pair-leaves state n line wanted None new answered e = absurd cc
pair-leaves state n line wanted (Some split) new answered e =
    let rules = matching.match_rules state.book.lines n line wanted split in
    let later = matching.book_paired n line wanted split state.book in
    let done = unless_done (voided_transaction_of state.book.transactions wanted) (changing state rules later 0 answer.LineMatch) new
    answered e in
    after-change state rules later 0 answer.LineMatch new answered
    (paired-leaves (is_mark split.mark New) state.next n wanted line state.book) done.1

line_match-leaves :
    (state : State) (n wanted : ℕ) (found : Option Line) (new : State) (answered : Answer)
    → matching.line_match_at state n wanted found ≡ Done new answered → Leaves state.next state.book new.book
line_match-leaves state n wanted None new answered e = absurd cc
line_match-leaves state n wanted (Some line) new answered e =
    pair-leaves state n line wanted (split_at wanted state.book.transactions) new answered e

match_pairs-leaves :
    (state : State) (rules : List (Option Rule)) (pairs : List Pair) (new : State) (answered : Answer)
    → auto.match_pairs state rules pairs ≡ Done new answered → Leaves state.next state.book new.book
match_pairs-leaves state rules pairs new answered e =
    let later = auto.book_paired pairs state.book in
    after-either (length pairs == 0) state rules rules later 0 (answer.MatchAuto pairs) (answer.MatchAuto pairs) new
    answered
    (record {
      transactions = none-remarked state.next (auto.clearing (auto.has_pair pairs)) state.book.transactions
          (clearing-makes state.next (auto.has_pair pairs));
      reconciliations = refl;
    }) e

reconcile-finishes :
    (state : State) (update : Update) (rules : List (Option Rule)) (made : ℕ → List ℕ → Answer) (account : ℕ)
    (day closing : ℤ) (new : State) (answered : Answer) → is_reconciling update ≡ true
    → reconciling.reconcile_of state rules made account day closing ≡ Done new answered
    → Finishes state update new.book
reconcile-finishes state update rules made account day closing new answered reconciles e =
    let recon = reconciling.finished state.book account day closing in
    let later = reconciling.book_reconciled state.book state.next recon in
    let more = reconciling.finish_rules state.book account day closing in
    let change = changing_done state (rules ++ more) later 1 (made state.next (marked_numbers recon.marked)) new
    answered e in
    let by = difference account day closing state.book.transactions in
    record {
      account = account;
      day = day;
      closing = closing;
      reconciles = reconciles;
      none = (Decides-int_eq by (pos 0)).0 (not-false _ (not-broken _ _ (kept_back rules more change.kept).0));
      is = ap (λ (s : State). s.book) change.is;
    }

closed-finishes :
    (state : State) (n : ℕ) (statement : Held) (found : Option ℤ) (new : State) (answered : Answer)
    → reconciling.reconcile_closed state n statement found ≡ Done new answered
    → Finishes state (ReconcileStatement n) new.book
closed-finishes state n statement None new answered e = absurd cc
closed-finishes state n statement (Some closing) new answered e =
    reconcile-finishes state (ReconcileStatement n) [] (λ number marked. answer.ReconcileStatement number marked)
    statement.account statement.day closing new answered refl e

statement-finishes :
    (state : State) (n : ℕ) (found : Option Held) (new : State) (answered : Answer)
    → reconciling.reconcile_at state n found ≡ Done new answered → Finishes state (ReconcileStatement n) new.book
statement-finishes state n None new answered e = absurd cc
statement-finishes state n (Some statement) new answered e =
    closed-finishes state n statement statement.closing new answered e

-- ---- every command

pub outcome-changes :
    (state : State) (update : Update) (new : State) (answered : Answer) → outcome state update ≡ Done new answered
    → Change state update new.book
outcome-changes state (BookCurrency commodity) new answered e =
    inl (refl, currency-leaves state commodity new answered e)
outcome-changes state (CommodityAdd commodity) new answered e =
    let later = with_thing state.next (thing.Commodity commodity) state.book in
    inl (
      refl,
      after-change state (commodities.add_rules state.book commodity) later 1 (answer.CommodityAdd state.next)
          new answered (same-tables state.next state.book later refl refl) e,
    )
outcome-changes state (AccountAdd account) new answered e =
    let later = with_thing state.next (thing.Account account) state.book in
    inl (
      refl,
      after-change state (accounts.add_rules state.book account) later 1 (answer.AccountAdd state.next) new
          answered (same-tables state.next state.book later refl refl) e,
    )
outcome-changes state (AccountEdit account given) new answered e =
    inl (refl, account_edit-leaves state account given (value_of account state.book.accounts) new answered e)
outcome-changes state (AccountDrop account) new answered e =
    inl (refl, account_drop-leaves state account (value_of account state.book.accounts) new answered e)
outcome-changes state (Post day given) new answered e =
    inl (refl, post-leaves state day given new answered e)
outcome-changes state (Edit transaction force day given) new answered e =
    inl (
      refl,
      edit-leaves state transaction force day given (value_of transaction state.book.transactions) new answered
          refl e,
    )
outcome-changes state (Drop transaction force) new answered e =
    inl (refl, drop-leaves state transaction force (value_of transaction state.book.transactions) new answered e)
outcome-changes state (Void transaction reason force) new answered e =
    inl (
      refl,
      void-leaves state transaction reason force (value_of transaction state.book.transactions) new answered e,
    )
outcome-changes state (Unvoid transaction) new answered e =
    inl (refl, unvoid-leaves state transaction (value_of transaction state.book.transactions) new answered e)
outcome-changes state (PriceSet price) new answered e =
    inl (refl, price_set-leaves state price (prices.price_of_day state.book.prices price) new answered e)
outcome-changes state (PriceDrop price) new answered e =
    let later = without_thing thing_kind.Price price state.book in
    inl (
      refl,
      after-change state (prices.unknown_price state.book.prices price ∷ []) later 0 answer.PriceDrop new
          answered (same-tables state.next state.book later refl refl) e,
    )
outcome-changes state (ScheduleAdd given) new answered e =
    inl (refl, schedule_add-leaves state given given.recurrences new answered e)
outcome-changes state (ScheduleDrop schedule) new answered e =
    let later = without_thing thing_kind.Schedule schedule state.book in
    inl (
      refl,
      after-change state (schedules.unknown_schedule state.book.schedules schedule ∷ []) later 0
          answer.ScheduleDrop new answered (same-tables state.next state.book later refl refl) e,
    )
outcome-changes state (ScheduleRun upto only) new answered e =
    inl (
      refl,
      schedule_run-leaves state (runs.asked_rules state upto only)
          (schedules.runs_of upto (runs.asked only state.book.schedules)) new answered e,
    )
outcome-changes state (LineAdd n others description) new answered e =
    inl (refl, line_add-leaves state n others description (value_of n state.book.lines) new answered e)
outcome-changes state (Bind binding) new answered e =
    inl (refl, bind-leaves state binding (bindings.binding_of binding.text state.book.bindings) new answered e)
outcome-changes state (LineDismiss line) new answered e =
    inl (refl, line_dismiss-leaves state line (value_of line state.book.lines) new answered e)
outcome-changes state (LineReopen line) new answered e =
    inl (refl, line_reopen-leaves state line (value_of line state.book.lines) new answered e)
outcome-changes state (Import format text given) new answered e =
    inl (
      refl,
      import-leaves state (importing.given_rules state.book format given) given
          (importing.said state.book.commodities text format) new answered e,
    )
outcome-changes state (Mark split cleared force) new answered e =
    inl (
      refl,
      mark-leaves state split (marking.mark_asked cleared) force (split_at split state.book.transactions) new
          answered (asked-open cleared) e,
    )
outcome-changes state (LineMatch line split) new answered e =
    inl (refl, line_match-leaves state line split (value_of line state.book.lines) new answered e)
outcome-changes state (MatchAuto account window) new answered e =
    inl (
      refl,
      match_pairs-leaves state (auto.match_rules state.book account window)
          (auto.matches state.book account window) new answered e,
    )
outcome-changes state (Reconcile account day closing) new answered e =
    inr (reconcile-finishes state (Reconcile account day closing)
    (accounts.unknown_account state.book.accounts account ∷ []) (λ number marked. answer.Reconcile number marked)
    account day closing new answered refl e)
outcome-changes state (ReconcileStatement statement) new answered e =
    inr (statement-finishes state statement (value_of statement state.book.statements) new answered e)
