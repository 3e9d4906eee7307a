-- The line that answers an accepted command.
use Rattle.std.specs.Prelude.{ℕ, List}
use Rattle.serde_json.specs.Data.{Members}
use Rattle.book_command.specs.declared.answer.Answer.{Answer}
use Rattle.book_command.specs.declared.answer.Answer.TheVariants.{BookCurrency, CommodityAdd, AccountAdd}
use Rattle.book_command.specs.declared.answer.Answer.TheVariants.{AccountEdit, AccountDrop, Post, Edit, Drop}
use Rattle.book_command.specs.declared.answer.Answer.TheVariants.{PriceSet, PriceDrop, Price, Undo, Redo, Status}
use Rattle.book_command.specs.declared.answer.Answer.TheVariants.{Register, Trial, Sheet, Income, Lots, Gains}
use Rattle.book_command.specs.declared.word.Word.TheVariants as word
use Rattle.book_command.specs.declared.answer.Answer.TheVariants.{ScheduleAdd, ScheduleDrop, ScheduleRun, Due}
use Rattle.book_command.specs.declared.answer.Answer.TheVariants.{Bind, Import, LineAdd, LineDismiss, LineReopen}
use Rattle.book_command.specs.declared.answer.Answer.TheVariants.{Lines, Statements}
use Rattle.book_command.specs.declared.answer.Answer.TheVariants.{Mark, LineMatch, MatchAuto}
use Rattle.book_command.specs.declared.answer.Answer.TheVariants.{Reconcile, ReconcileStatement, Recons}
use Rattle.book_command.specs.declared.answer.Answer.TheVariants.{Void, Unvoid, Voided}
use Rattle.book_texts.specs.Accounts.{account_add, account_edit, account_drop}
use Rattle.book_texts.specs.Commodities.{book_currency, commodity_add}
use Rattle.book_texts.specs.Fields.{line_of}
use Rattle.book_texts.specs.History.{undo, redo, status}
use Rattle.book_texts.specs.Posting.{post, edit, drop}
use Rattle.book_texts.specs.Posting.{mark}
use Rattle.book_texts.specs.Prices.{price_set, price_drop, price}
use Rattle.book_texts.specs.Reconciliations.{reconciled, recons}
use Rattle.book_texts.specs.Reports.{gains, report}
use Rattle.book_texts.specs.Schedules.{schedule_add, schedule_drop, schedule_run, due}
use Rattle.book_texts.specs.Statements.{bind, import, line_add, line_dismiss, line_reopen, lines, statements}
use Rattle.book_texts.specs.Statements.{line_match, match_auto}
use Rattle.book_texts.specs.Voiding.{void, unvoid, voided}

-- The answer of each command, with the version after it.
abbrev pub answer_members : Answer → ℕ → Members
answer_members BookCurrency = book_currency
answer_members (CommodityAdd commodity) = commodity_add commodity
answer_members (AccountAdd account) = account_add account
answer_members AccountEdit = account_edit
answer_members AccountDrop = account_drop
answer_members (Post transaction splits balances) = post transaction splits balances
answer_members (Edit transaction splits balances) = edit splits balances
answer_members Drop = drop
answer_members Void = void
answer_members Unvoid = unvoid
answer_members Mark = mark
answer_members (PriceSet number) = price_set number
answer_members PriceDrop = price_drop
answer_members (Price rate) = price rate
answer_members (Register text) = report word.Register text
answer_members (Trial text) = report word.Trial text
answer_members (Sheet text) = report word.Sheet text
answer_members (Lots text) = report word.Lots text
answer_members (Gains gain) = gains gain
answer_members (Income text) = report word.Income text
answer_members (ScheduleAdd number) = schedule_add number
answer_members ScheduleDrop = schedule_drop
answer_members (ScheduleRun transactions) = schedule_run transactions
answer_members Bind = bind
answer_members (Import added new_lines seen) = import added new_lines seen
answer_members LineMatch = line_match
answer_members (LineAdd transaction splits) = line_add transaction splits
answer_members LineDismiss = line_dismiss
answer_members LineReopen = line_reopen
answer_members (MatchAuto pairs) = match_auto pairs
answer_members (Reconcile number marked) = reconciled word.Reconcile number marked
answer_members (ReconcileStatement number marked) = reconciled word.ReconcileStatement number marked
answer_members (Lines shown) = lines shown
answer_members (Statements shown) = statements shown
answer_members (Recons shown) = recons shown
answer_members (Voided shown) = voided shown
answer_members (Due days) = due days
answer_members Undo = undo
answer_members Redo = redo
answer_members (Status accounts later lines past recons splits transactions) =
    status accounts later lines past recons splits transactions

-- Its line.
abbrev pub answer_bytes : Answer → ℕ → List ℕ
answer_bytes answer version = line_of (answer_members answer version)
