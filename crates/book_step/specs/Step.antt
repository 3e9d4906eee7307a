-- What a change of the book comes to in a state: the union of what these commands do, family by family; and the version
-- that any command may be for.
use Rattle.std.specs.Prelude.{ℕ, ◌==◌, not, Option, Some, None}
use Rattle.book_commodity.specs.Rules.{broken_where}
use Rattle.book_step.specs.Accounts.{account_add, account_edit, account_drop}
use Rattle.book_step.specs.BankLines.{line_dismiss, line_reopen}
use Rattle.book_step.specs.Bindings.{bind}
use Rattle.book_step.specs.Commodities.{book_currency, commodity_add}
use Rattle.book_step.specs.Editing.{drop_transaction, edit_transaction}
use Rattle.book_step.specs.LineAdding.{line_add}
use Rattle.book_step.specs.Importing.{import_file}
use Rattle.book_step.specs.AutoMatching.{match_auto}
use Rattle.book_step.specs.LineMatching.{line_match}
use Rattle.book_step.specs.Marking.{mark}
use Rattle.book_step.specs.Reconciling.{reconcile, reconcile_statement}
use Rattle.book_step.specs.Outcome.{Outcome}
use Rattle.book_step.specs.Posting.{post}
use Rattle.book_step.specs.Prices.{price_drop, price_set}
use Rattle.book_step.specs.ScheduleRuns.{schedule_run}
use Rattle.book_step.specs.Schedules.{schedule_add, schedule_drop}
use Rattle.book_step.specs.State.{State}
use Rattle.book_step.specs.Voiding.{unvoid_transaction, void_transaction}
use Rattle.book_command.specs.declared.command.Update.{Update}
use Rattle.book_command.specs.declared.command.Update.TheVariants.{BookCurrency, CommodityAdd, AccountAdd}
use Rattle.book_command.specs.declared.command.Update.TheVariants.{AccountEdit, AccountDrop, Post, Edit, Drop}
use Rattle.book_command.specs.declared.command.Update.TheVariants.{Void, Unvoid}
use Rattle.book_command.specs.declared.command.Update.TheVariants.{PriceSet, PriceDrop, ScheduleAdd, ScheduleDrop}
use Rattle.book_command.specs.declared.command.Update.TheVariants.{ScheduleRun}
use Rattle.book_command.specs.declared.command.Update.TheVariants.{LineAdd}
use Rattle.book_command.specs.declared.command.Update.TheVariants.{Bind, LineDismiss, LineReopen}
use Rattle.book_command.specs.declared.command.Update.TheVariants.{Import}
use Rattle.book_command.specs.declared.command.Update.TheVariants.{Mark}
use Rattle.book_command.specs.declared.command.Update.TheVariants.{LineMatch}
use Rattle.book_command.specs.declared.command.Update.TheVariants.{MatchAuto}
use Rattle.book_command.specs.declared.command.Update.TheVariants.{Reconcile, ReconcileStatement}
use Rattle.book_command.specs.declared.rule.Rule.{Rule}
use Rattle.book_command.specs.declared.rule.Rule.TheVariants.{Stale}

-- A command is for another version than the present one. This is asked before all other rules, and of every command.
abbrev pub stale : ℕ → Option ℕ → Option Rule
stale version None = None
stale version (Some at) = broken_where (not (at == version)) (Stale version)

-- A change that is asked of the book comes to this, at the version that it is for.
abbrev pub outcome : State → Update → Outcome
outcome state (BookCurrency commodity) = book_currency state commodity
outcome state (CommodityAdd commodity) = commodity_add state commodity
outcome state (AccountAdd account) = account_add state account
outcome state (AccountEdit account given) = account_edit state account given
outcome state (AccountDrop account) = account_drop state account
outcome state (Post day given) = post state day given
outcome state (Edit number force day given) = edit_transaction state number force day given
outcome state (Drop number force) = drop_transaction state number force
outcome state (Void number reason force) = void_transaction state number reason force
outcome state (Unvoid number) = unvoid_transaction state number
outcome state (PriceSet price) = price_set state price
outcome state (PriceDrop number) = price_drop state number
outcome state (ScheduleAdd given) = schedule_add state given
outcome state (ScheduleDrop number) = schedule_drop state number
outcome state (ScheduleRun upto schedule) = schedule_run state upto schedule
outcome state (LineAdd line others description) = line_add state line others description
outcome state (Bind binding) = bind state binding
outcome state (LineDismiss line) = line_dismiss state line
outcome state (LineReopen line) = line_reopen state line
outcome state (Import format text account) = import_file state format text account
outcome state (Mark split cleared force) = mark state split cleared force
outcome state (LineMatch line split) = line_match state line split
outcome state (MatchAuto account window) = match_auto state account window
outcome state (Reconcile account day closing) = reconcile state account day closing
outcome state (ReconcileStatement statement) = reconcile_statement state statement
