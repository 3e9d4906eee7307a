-- No command takes a line of a bank statement or a statement out of the book.
use Rattle.std.proofs.Common.{◌≡◌, ℕ, ℤ, ◌+◌, ◌==◌, ◌||◌, Bool, true, false, cond, List, []}
use Rattle.std.proofs.Common.{◌∷◌, ◌++◌, length, map, Option, Some, None, Ok, Err, Result, refl, ap, ◌∙◌}
use Rattle.std.proofs.Common.{arith}
use Rattle.std.specs.Prelude.{IfOk}
use Rattle.std.specs.List.{list_any}
use Rattle.std.proofs.lemmas.Bool.Decides.{nat_tests}
use Rattle.book_commodity.specs.Rules.{first_broken}
use Rattle.book_commodity.specs.Table.{Rises, value_of}
use Rattle.book_commodity.proofs.TableLemmas.{above_value}
use Rattle.book_accounts.specs.declared.account.Account.{Account}
use Rattle.book_prices.specs.declared.price.Price.{Price}
use Rattle.book_schedule.specs.declared.recurrence.Recurrence.{Recurrence}
use Rattle.book_splits.specs.declared.transaction.Txn.{Txn}
use Rattle.book_statement.specs.declared.binding.Binding.{Binding}
use Rattle.book_statement.specs.declared.fault.StatementFault.{StatementFault}
use Rattle.book_statement.specs.declared.line.Line.{Line}
use Rattle.book_statement.specs.declared.line_key.LineKey.{LineKey}
use Rattle.book_statement.specs.declared.line_state.LineState.TheVariants.{Open, Matched, Dismissed}
use Rattle.book_statement.specs.declared.statement.Statement.{Statement}
use Rattle.book_sound.specs.Dismissal.{loses_split}
use Rattle.book_sound.specs.LineRules.{is_same_key, key_of_line, split_at}
use Rattle.book_void.specs.Voiding.{voided_for}
use Rattle.book_undo.specs.Book.{with_currency, with_thing, without_thing}
use Rattle.book_undo.specs.Edit.{edited}
use Rattle.book_undo.specs.declared.thing.Thing.TheVariants as thing
use Rattle.book_undo.specs.declared.thing.ThingKind.TheVariants as thing_kind
use Rattle.book_import.specs.Import.{has_key}
use Rattle.book_import.specs.declared.added.Additions.{Additions}
use Rattle.book_command.specs.declared.answer.Answer.{Answer}
use Rattle.book_command.specs.declared.answer.Answer.TheVariants as answer
use Rattle.book_command.specs.declared.command.GivenAccount.{GivenAccount}
use Rattle.book_command.specs.declared.command.GivenOther.{GivenOther}
use Rattle.book_command.specs.declared.command.GivenSchedule.{GivenSchedule}
use Rattle.book_command.specs.declared.command.GivenTxn.{GivenTxn}
use Rattle.book_command.specs.declared.command.Update.{Update}
use Rattle.book_command.specs.declared.command.Update.TheVariants.{BookCurrency, CommodityAdd, AccountAdd, AccountEdit}
use Rattle.book_command.specs.declared.command.Update.TheVariants.{AccountDrop, Drop, Edit, Post, Unvoid, Void}
use Rattle.book_command.specs.declared.command.Update.TheVariants.{PriceDrop, PriceSet, ScheduleAdd, ScheduleDrop}
use Rattle.book_command.specs.declared.command.Update.TheVariants.{ScheduleRun}
use Rattle.book_command.specs.declared.command.Update.TheVariants.{LineAdd}
use Rattle.book_command.specs.declared.command.Update.TheVariants.{Bind, LineDismiss, LineReopen}
use Rattle.book_command.specs.declared.command.Update.TheVariants.{Import}
use Rattle.book_command.specs.declared.command.Update.TheVariants.{Mark}
use Rattle.book_command.specs.declared.command.Update.TheVariants.{LineMatch}
use Rattle.book_command.specs.declared.command.Update.TheVariants.{MatchAuto}
use Rattle.book_command.specs.declared.command.Update.TheVariants.{Reconcile, ReconcileStatement}
use Rattle.book_command.specs.declared.refusal.Refusal.{Refusal}
use Rattle.book_command.specs.declared.rule.Rule.{Rule}
use Rattle.book_command.specs.declared.rule.Rule.TheVariants.{BadStatement}
use Rattle.book_step.specs.Accounts as accounts
use Rattle.book_step.specs.AutoMatching.{match_rules, matches}
use Rattle.book_step.specs.BankLines.{in_state, is_open, line_dismiss_at, line_reopen_at, line_taken}
use Rattle.book_step.specs.Bindings as bindings
use Rattle.book_step.specs.Commodities as commodities
use Rattle.book_step.specs.Editing as editing
use Rattle.book_step.specs.Importing as importing
use Rattle.book_step.specs.Laws.{KeepsLines, KeepsStatements, SaysSame}
use Rattle.book_step.specs.LineAdding as line_adding
use Rattle.book_step.specs.Marking.{mark_asked}
use Rattle.book_step.specs.Outcome.{Broken, Done, IsStepTo, StepsTo, after}
use Rattle.book_step.specs.Posting.{new_transaction, post_answer, post_rules}
use Rattle.book_step.specs.Prices as prices
use Rattle.book_step.specs.SameTransaction.{same_transaction}
use Rattle.book_step.specs.ScheduleRuns as runs
use Rattle.book_step.specs.Schedules as schedules
use Rattle.book_step.specs.Soundness.{IsSound}
use Rattle.book_step.specs.State.{State}
use Rattle.book_step.specs.Step.{outcome}
use Rattle.book_step.specs.VoidRules.{voided_transaction, not_voided}
use Rattle.book_step.specs.Voiding as voiding
use Rattle.book_step.specs.declared.step.Step.{Step}
use Rattle.book_step.proofs.AnswerLemmas.{whole_of}
use Rattle.book_step.proofs.KeepLemmas.{Keeps, added-behind, after-change, after-either, after-leaving, line-in-state}
use Rattle.book_step.proofs.KeepLemmas.{keeps-through, lines-dismissed, untouched}
use Rattle.book_step.proofs.KeepMarks.{line_match-keeps, mark-keeps, match_pairs-keeps, reconcile-keeps}
use Rattle.book_step.proofs.KeepMarks.{reconcile_statement-keeps}
use Rattle.book_step.proofs.SoundOutcome.{unless_done}

-- ---- commodities, accounts, prices

currency-keeps :
    (state : State) (commodity : ℕ) (new : State) (answered : Answer)
    → commodities.book_currency state commodity ≡ Done new answered → Keeps state.book new.book
currency-keeps state commodity new answered e =
    let rules = commodities.currency_rules state.book commodity in
    let later = with_currency commodity state.book in
    after-either (commodity == state.book.currency) state rules rules later 0 answer.BookCurrency answer.BookCurrency
    new answered (untouched state.book later refl refl) e

account_edit-keeps :
    (state : State) (n : ℕ) (given : GivenAccount) (found : Option Account) (new : State) (answered : Answer)
    → accounts.account_edit_at state n given found ≡ Done new answered → Keeps state.book new.book
account_edit-keeps state n given None new answered e = absurd cc
account_edit-keeps state n given (Some old) new answered e =
    let account = accounts.with_given old given in
    let rules = accounts.edit_rules state.book n given.parent old account in
    let later = with_thing n (thing.Account account) state.book in
    after-either (accounts.stays old given).is state rules rules later 0 answer.AccountEdit answer.AccountEdit new
    answered (untouched state.book later refl refl) e

account_drop-keeps :
    (state : State) (n : ℕ) (found : Option Account) (new : State) (answered : Answer)
    → accounts.account_drop_of state n found ≡ Done new answered → Keeps state.book new.book
account_drop-keeps state n None new answered e = absurd cc
account_drop-keeps state n (Some account) new answered e =
    let later = without_thing thing_kind.Account n state.book in
    after-change state (accounts.drop_rules state.book n account) later 0 answer.AccountDrop new answered
    (untouched state.book later refl refl) e

price_set-keeps :
    (state : State) (price : Price) (found : Option (ℕ × Price)) (new : State) (answered : Answer)
    → prices.price_set_at state price found ≡ Done new answered → Keeps state.book new.book
price_set-keeps state price None new answered e =
    let rules = prices.price_rules state.book price ++ prices.too_many_prices state.book.prices ∷ [] in
    let later = with_thing state.next (thing.Price price) state.book in
    after-change state rules later 1 (answer.PriceSet state.next) new answered
    (untouched state.book later refl refl) e
price_set-keeps state price (Some old) new answered e =
    let rules = prices.price_rules state.book price in
    let later = with_thing old.0 (thing.Price price) state.book in
    after-either (prices.has_numbers old.1 price) state rules rules later 0 (answer.PriceSet old.0)
    (answer.PriceSet old.0) new answered (untouched state.book later refl refl) e

-- ---- transactions

post-keeps :
    (state : State) (day : ℤ) (given : GivenTxn) (new : State) (answered : Answer)
    → outcome state (Post day given) ≡ Done new answered → Keeps state.book new.book
post-keeps state day given new answered e =
    let transaction = new_transaction state.next day given in
    let later = with_thing state.next (thing.Txn transaction) state.book in
    after-change state (post_rules state.book transaction) later (1 + length transaction.splits)
    (post_answer later state.next transaction) new answered (untouched state.book later refl refl) e

edit-keeps :
    (state : State) (n : ℕ) (force : Bool) (day : ℤ) (given : GivenTxn) (found : Option Txn) (new : State)
    (answered : Answer) → editing.edit_at state n force day given found ≡ Done new answered
    → Keeps state.book new.book
edit-keeps state n force day given None new answered e = absurd cc
edit-keeps state n force day given (Some old) new answered e =
    let edited = editing.edited_transaction old state.next day given in
    let rules = editing.edit_rules state.book n force given old edited in
    let later = editing.book_with state.book n old edited in
    let done = unless_done (voided_transaction n old) (editing.edit_of state n force day given old) new answered e in
    after-either (same_transaction edited old).is state rules rules later
    (editing.drawn_by old.splits given.splits) (editing.edit_answer state.book n edited)
    (editing.edit_answer later n edited) new answered
    (lines-dismissed state.book later (loses_split old.splits edited.splits) refl refl) done.1

drop-keeps :
    (state : State) (n : ℕ) (force : Bool) (found : Option Txn) (new : State) (answered : Answer)
    → editing.drop_at state n force found ≡ Done new answered → Keeps state.book new.book
drop-keeps state n force None new answered e = absurd cc
drop-keeps state n force (Some old) new answered e =
    let later = editing.book_without state.book n old in
    after-change state (voided_transaction n old ∷ editing.reconciled force old.splits [] ∷ []) later 0 answer.Drop new
    answered (lines-dismissed state.book later (loses_split old.splits []) refl refl) e

void-keeps :
    (state : State) (n : ℕ) (reason : List ℕ) (force : Bool) (found : Option Txn) (new : State) (answered : Answer)
    → voiding.void_at state n reason force found ≡ Done new answered → Keeps state.book new.book
void-keeps state n reason force None new answered e = absurd cc
void-keeps state n reason force (Some old) new answered e =
    let voided = voided_for reason old in
    let later = editing.book_with state.book n old voided in
    after-change state (voided_transaction n old ∷ editing.reconciled force old.splits [] ∷ []) later 0 answer.Void new
    answered (lines-dismissed state.book later (loses_split old.splits voided.splits) refl refl) e

unvoid-keeps :
    (state : State) (n : ℕ) (found : Option Txn) (new : State) (answered : Answer)
    → voiding.unvoid_at state n found ≡ Done new answered → Keeps state.book new.book
unvoid-keeps state n None new answered e = absurd cc
unvoid-keeps state n (Some old) new answered e =
    let later = voiding.book_restored state.book n old in
    after-change state (not_voided n old ∷ []) later 0 answer.Unvoid new answered
    (untouched state.book later refl refl) e

-- ---- schedules

schedule_add-keeps :
    (state : State) (given : GivenSchedule) (recurrences : List Recurrence) (new : State) (answered : Answer)
    → schedules.schedule_add_from state given recurrences ≡ Done new answered → Keeps state.book new.book
schedule_add-keeps state given [] new answered e = absurd cc
schedule_add-keeps state given (first ∷ more) new answered e =
    let schedule = schedules.new_schedule first.start given in
    let later = with_thing state.next (thing.Schedule schedule) state.book in
    after-change state (schedules.add_rules state.book schedule) later 1 (answer.ScheduleAdd state.next) new answered
    (untouched state.book later refl refl) e

schedule_run-keeps :
    (state : State) (rules : List (Option Rule)) (ran : List schedules.Run) (new : State) (answered : Answer)
    → runs.schedule_run_of state rules ran ≡ Done new answered → Keeps state.book new.book
schedule_run-keeps state rules [] new answered e =
    after-leaving state rules (answer.ScheduleRun []) new answered e
schedule_run-keeps state rules (run ∷ more) new answered e =
    let all = run ∷ more in
    let later = runs.book_ran state.book state.next all in
    after-change state
    (rules ++ runs.too_many_made state.book all ∷ runs.too_many_splits_made state.book all ∷ []) later
    (runs.drawn_by all)
    (answer.ScheduleRun (map (λ entry. entry.0) (runs.made_by state.next all))) new answered
    (untouched state.book later refl refl) e

-- ---- bank statements

bind-keeps :
    (state : State) (binding : Binding) (found : Option (ℕ × Binding)) (new : State) (answered : Answer)
    → bindings.bind_at state binding found ≡ Done new answered → Keeps state.book new.book
bind-keeps state binding None new answered e =
    let later = with_thing state.next (thing.Binding binding) state.book in
    after-change state (bindings.new_rules state.book binding.account) later 1 answer.Bind new answered
    (untouched state.book later refl refl) e
bind-keeps state binding (Some old) new answered e =
    let rules = bindings.account_rules state.book.accounts binding.account in
    let later = with_thing old.0 (thing.Binding binding) state.book in
    after-either (old.1.account == binding.account) state rules rules later 0 answer.Bind answer.Bind new answered
    (untouched state.book later refl refl) e

line_dismiss-keeps :
    (state : State) (n : ℕ) (found : Option Line) (new : State) (answered : Answer)
    → value_of n state.book.lines ≡ found → line_dismiss_at state n found ≡ Done new answered
    → Keeps state.book new.book
line_dismiss-keeps state n None new answered there e = absurd cc
line_dismiss-keeps state n (Some line) new answered there e =
    after-change state (line_taken n line ∷ []) (with_thing n (thing.Line (in_state line Dismissed)) state.book) 0
    answer.LineDismiss new answered (line-in-state state.book n line Dismissed there) e

line_reopen-keeps :
    (state : State) (n : ℕ) (found : Option Line) (new : State) (answered : Answer)
    → value_of n state.book.lines ≡ found → line_reopen_at state n found ≡ Done new answered
    → Keeps state.book new.book
line_reopen-keeps state n None new answered there e = absurd cc
line_reopen-keeps state n (Some line) new answered there e =
    after-either (is_open line.state) state [] [] (with_thing n (thing.Line (in_state line Open)) state.book) 0
    answer.LineReopen answer.LineReopen new answered (line-in-state state.book n line Open there) e

line_add-keeps :
    (state : State) (n : ℕ) (others : List GivenOther) (description : Option (List ℕ)) (found : Option Line)
    (new : State) (answered : Answer) → value_of n state.book.lines ≡ found
    → line_adding.line_add_at state n others description found ≡ Done new answered → Keeps state.book new.book
line_add-keeps state n others description None new answered there e = absurd cc
line_add-keeps state n others description (Some line) new answered there e =
    let all = state.book.accounts in
    let commodity = line_adding.commodity_of (value_of line.account all) in
    let transaction = line_adding.line_transaction state.next commodity line others description in
    let posted = with_thing state.next (thing.Txn transaction) state.book in
    let rules = line_adding.given_rules all n line commodity others ++ post_rules state.book transaction in
    let later = line_adding.book_matched state.book state.next transaction n line in
    after-change state rules later (1 + length transaction.splits) (line_adding.matched_answer state.next transaction)
    new answered
    (keeps-through state.book posted later (untouched state.book posted refl refl)
    (line-in-state posted n line (Matched (state.next + 1)) there)) e

import_of-keeps :
    (state : State) (rules : List (Option Rule)) (added : Additions) (new : State) (answered : Answer)
    → importing.import_of state rules added ≡ Done new answered → Keeps state.book new.book
import_of-keeps state rules added new answered e =
    let all = rules ++ importing.room_rules state.book added in
    after-either (importing.adds_nothing added) state all all (importing.book_with state.book added)
    (importing.drawn_by added) (importing.import_answer added) (importing.import_answer added) new answered
    (added-behind state.book added) e

import-keeps :
    (state : State) (rules : List (Option Rule)) (given : Option ℕ) (says : Result (List Statement) StatementFault)
    (new : State) (answered : Answer) → importing.import_said state rules given says ≡ Done new answered
    → Keeps state.book new.book
import-keeps state rules given (Err fault) new answered e =
    absurd (let none = (unless_done (first_broken rules) (Broken (BadStatement fault)) new answered e).1 in cc)
import-keeps state rules given (Ok statements) new answered e =
    import_of-keeps state (rules ++ importing.file_rules state.book given statements)
    (importing.added_by state given statements) new answered e

-- ---- every command

outcome-keeps :
    (state : State) (update : Update) (new : State) (answered : Answer) → outcome state update ≡ Done new answered
    → Keeps state.book new.book
outcome-keeps state (BookCurrency commodity) new answered e = currency-keeps state commodity new answered e
outcome-keeps state (CommodityAdd commodity) new answered e =
    let later = with_thing state.next (thing.Commodity commodity) state.book in
    after-change state (commodities.add_rules state.book commodity) later 1 (answer.CommodityAdd state.next) new
    answered (untouched state.book later refl refl) e
outcome-keeps state (AccountAdd account) new answered e =
    let later = with_thing state.next (thing.Account account) state.book in
    after-change state (accounts.add_rules state.book account) later 1 (answer.AccountAdd state.next) new answered
    (untouched state.book later refl refl) e
outcome-keeps state (AccountEdit account given) new answered e =
    account_edit-keeps state account given (value_of account state.book.accounts) new answered e
outcome-keeps state (AccountDrop account) new answered e =
    account_drop-keeps state account (value_of account state.book.accounts) new answered e
outcome-keeps state (Post day given) new answered e = post-keeps state day given new answered e
outcome-keeps state (Edit transaction force day given) new answered e =
    edit-keeps state transaction force day given (value_of transaction state.book.transactions) new answered e
outcome-keeps state (Drop transaction force) new answered e =
    drop-keeps state transaction force (value_of transaction state.book.transactions) new answered e
outcome-keeps state (Void transaction reason force) new answered e =
    void-keeps state transaction reason force (value_of transaction state.book.transactions) new answered e
outcome-keeps state (Unvoid transaction) new answered e =
    unvoid-keeps state transaction (value_of transaction state.book.transactions) new answered e
outcome-keeps state (PriceSet price) new answered e =
    price_set-keeps state price (prices.price_of_day state.book.prices price) new answered e
outcome-keeps state (PriceDrop price) new answered e =
    let later = without_thing thing_kind.Price price state.book in
    after-change state (prices.unknown_price state.book.prices price ∷ []) later 0 answer.PriceDrop new answered
    (untouched state.book later refl refl) e
outcome-keeps state (ScheduleAdd given) new answered e =
    schedule_add-keeps state given given.recurrences new answered e
outcome-keeps state (ScheduleDrop schedule) new answered e =
    let later = without_thing thing_kind.Schedule schedule state.book in
    after-change state (schedules.unknown_schedule state.book.schedules schedule ∷ []) later 0 answer.ScheduleDrop new
    answered (untouched state.book later refl refl) e
outcome-keeps state (ScheduleRun upto only) new answered e =
    schedule_run-keeps state (runs.asked_rules state upto only)
    (schedules.runs_of upto (runs.asked only state.book.schedules)) new answered e
outcome-keeps state (LineAdd n others description) new answered e =
    line_add-keeps state n others description (value_of n state.book.lines) new answered refl e
outcome-keeps state (Bind binding) new answered e =
    bind-keeps state binding (bindings.binding_of binding.text state.book.bindings) new answered e
outcome-keeps state (LineDismiss line) new answered e =
    line_dismiss-keeps state line (value_of line state.book.lines) new answered refl e
outcome-keeps state (LineReopen line) new answered e =
    line_reopen-keeps state line (value_of line state.book.lines) new answered refl e
outcome-keeps state (Import format text given) new answered e =
    import-keeps state (importing.given_rules state.book format given) given
    (importing.said state.book.commodities text format) new answered e
outcome-keeps state (Mark split cleared force) new answered e =
    mark-keeps state split (mark_asked cleared) force (split_at split state.book.transactions) new answered e
outcome-keeps state (LineMatch line split) new answered e =
    line_match-keeps state line split (value_of line state.book.lines) new answered refl e
outcome-keeps state (MatchAuto account window) new answered e =
    match_pairs-keeps state (match_rules state.book account window) (matches state.book account window) new answered e
outcome-keeps state (Reconcile account day closing) new answered e =
    reconcile-keeps state (accounts.unknown_account state.book.accounts account ∷ [])
    (λ number marked. answer.Reconcile number marked) account day closing new answered e
outcome-keeps state (ReconcileStatement statement) new answered e =
    reconcile_statement-keeps state statement (value_of statement state.book.statements) new answered e

-- After a change that is done each line is there as it was, but for its state.
pub outcome-keeps-lines :
    (state : State) (update : Update) (new : State) (answered : Answer) → outcome state update ≡ Done new answered
    → KeepsLines state.book new.book
outcome-keeps-lines state update new answered e = (outcome-keeps state update new answered e).lines

-- After a change that is done each statement is there as it was.
pub outcome-keeps-statements :
    (state : State) (update : Update) (new : State) (answered : Answer) → outcome state update ≡ Done new answered
    → KeepsStatements state.book new.book
outcome-keeps-statements state update new answered e = (outcome-keeps state update new answered e).statements

-- ---- so all keys stay

-- where one of rising entries passes a test, one is found by its number that does
any-stands :
    {T : Type 0} (test : T → Bool) (es : List (ℕ × T)) → Rises es → list_any (λ (e : ℕ × T). test e.1) es ≡ true
    → (n : ℕ) × (x : T) × (value_of n es ≡ Some x) × (test x ≡ true)
any-stands test [] r some = absurd cc
any-stands {T} test (e ∷ es) r some = go (test e.1) refl some (any-stands test es r.1)
  where
    go : (here : Bool) → test e.1 ≡ here → (here || list_any (λ (e : ℕ × T). test e.1) es) ≡ true
        → (list_any (λ (e : ℕ × T). test e.1) es ≡ true
        → (n : ℕ) × (x : T) × (value_of n es ≡ Some x) × (test x ≡ true))
        → (n : ℕ) × (x : T) × (value_of n (e ∷ es) ≡ Some x) × (test x ≡ true)
    go true is some more = (e.0, e.1, grind (arith, nat_tests), is)
    go false is some more =
        let rest = more some in
        let free = above_value e.0 es r.0 in
        let there = rest.2 in (rest.0, rest.1, grind (arith, nat_tests, free, there), rest.3)

or_true : (a : Bool) → (a || true) ≡ true
or_true true = refl
or_true false = refl

-- and the other way round
stands-any :
    {T : Type 0} (test : T → Bool) (n : ℕ) (x : T) (es : List (ℕ × T)) → value_of n es ≡ Some x → test x ≡ true
    → list_any (λ (e : ℕ × T). test e.1) es ≡ true
stands-any test n x [] there is = absurd cc
stands-any {T} test n x (e ∷ es) there is = go (n == e.0) there (λ behind. stands-any test n x es behind is)
  where
    go : (here : Bool) → cond here (Some e.1) (value_of n es) ≡ Some x
        → (value_of n es ≡ Some x → list_any (λ (e : ℕ × T). test e.1) es ≡ true)
        → (test e.1 || list_any (λ (e : ℕ × T). test e.1) es) ≡ true
    go true there more =
        let same : e.1 ≡ x = cc in
        ap (λ (y : T). test y || list_any (λ (e : ℕ × T). test e.1) es) same
        ∙ ap (λ b. b || list_any (λ (e : ℕ × T). test e.1) es) is
    go false there more = ap (λ b. test e.1 || b) (more there) ∙ or_true (test e.1)

same-key : (old new : Line) → SaysSame old new → key_of_line new ≡ key_of_line old
same-key old new says i = record {
  account = says.account i;
  day = (says.body i).day;
  amount = (says.body i).amount;
  kind = (says.body i).kind;
  ref_own = (says.body i).ref_own;
  ref_bank = (says.body i).ref_bank;
  text = (says.body i).text;
  ordinal = says.ordinal i;
}

-- After a change of a sound state that is done the key of each line is there.
pub outcome-keeps-keys :
    (state : State) (update : Update) (new : State) (answered : Answer) (key : LineKey) → IsSound state
    → outcome state update ≡ Done new answered → has_key key state.book.lines ≡ true
    → has_key key new.book.lines ≡ true
outcome-keeps-keys state update new answered key is e known =
    let test : Line → Bool = λ line. is_same_key key (key_of_line line) in
    let old = any-stands test state.book.lines is.book.lines.rise known in
    let later = (outcome-keeps-lines state update new answered e).each old.0 old.1 old.2 in
    stands-any test old.0 later.0 new.book.lines later.1
    (ap (is_same_key key) (same-key old.1 later.0 later.2) ∙ old.3)

-- ---- as a step says it

step-keeps :
    (state : State) (update : Update) (step : Step) → IsStepTo state (outcome state update) step
    → Keeps state.book (edited step.edit state.book)
step-keeps state update step is =
    let whole = whole_of (outcome state update) (after state step) step.answer is.leads in
    outcome-keeps state update (after state step) whole.0 whole.1

pub step-keeps-lines :
    (state : State) (update : Update) (result : Result Step Refusal) → StepsTo state (outcome state update) result
    → IfOk result (λ step. KeepsLines state.book (edited step.edit state.book))
step-keeps-lines state update (Ok step) is = (step-keeps state update step is).lines
step-keeps-lines state update (Err refusal) is = tt

pub step-keeps-statements :
    (state : State) (update : Update) (result : Result Step Refusal) → StepsTo state (outcome state update) result
    → IfOk result (λ step. KeepsStatements state.book (edited step.edit state.book))
step-keeps-statements state update (Ok step) is = (step-keeps state update step is).statements
step-keeps-statements state update (Err refusal) is = tt
