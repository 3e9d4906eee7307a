-- The commands: the members that each reads after its word.
use Rattle.std.specs.Prelude.{codes}
use Rattle.book_json.specs.Members.{Form, Reader, needed, optional, ends, gives, ◌>>=◌}
use Rattle.book_json.specs.Forms.{whole, among}
use Rattle.book_command.specs.Words.{words}
use Rattle.book_command.specs.declared.command.Command.{Command}
use Rattle.book_command.specs.declared.command.Report.{Report}
use Rattle.book_command.specs.declared.command.Update.{Update}
use Rattle.book_command.specs.declared.command.What.{What}
use Rattle.book_command.specs.declared.command.What.TheVariants as what
use Rattle.book_command.specs.declared.word.Word.{Word}
use Rattle.book_command.specs.declared.word.Word.TheVariants as word
use Rattle.book_wire.specs.Accounts as accounts
use Rattle.book_wire.specs.Commodities as commodities
use Rattle.book_wire.specs.Posting as posting
use Rattle.book_wire.specs.Prices as prices
use Rattle.book_wire.specs.Reconciliations as reconciliations
use Rattle.book_wire.specs.Reports as reports
use Rattle.book_wire.specs.Schedules as schedules
use Rattle.book_wire.specs.Statements as statements

-- The text of a command's word.
unfoldable pub word_form : Form Word
word_form = among words

-- A command that asks for a change of the book, whose members are read so.
abbrev pub changing : Reader Update → Reader What
changing members = do
  update ← members
  gives (what.Update update)

-- A command that asks for a report, whose members are read so.
abbrev pub reporting : Reader Report → Reader What
reporting members = do
  report ← members
  gives (what.Report report)

-- What the command of a word asks, of its members.
abbrev pub what_of : Word → Reader What
what_of word.BookCurrency = changing commodities.book_currency
what_of word.CommodityAdd = changing commodities.commodity_add
what_of word.AccountAdd = changing accounts.account_add
what_of word.AccountEdit = changing accounts.account_edit
what_of word.AccountDrop = changing accounts.account_drop
what_of word.Post = changing posting.post
what_of word.Edit = changing posting.edit
what_of word.Drop = changing posting.drop_transaction
what_of word.Void = changing posting.void
what_of word.Unvoid = changing posting.unvoid
what_of word.Mark = changing posting.mark
what_of word.PriceSet = prices.price_set
what_of word.PriceDrop = prices.price_drop
what_of word.Price = prices.price
what_of word.Register = reporting reports.register
what_of word.Trial = reporting reports.trial
what_of word.Sheet = reporting reports.sheet
what_of word.Income = reporting reports.income
what_of word.Lots = reporting reports.lots
what_of word.Gains = reporting reports.gains
what_of word.ScheduleAdd = schedules.schedule_add
what_of word.ScheduleDrop = schedules.schedule_drop
what_of word.ScheduleRun = schedules.schedule_run
what_of word.Due = schedules.due
what_of word.Bind = statements.bind
what_of word.Import = statements.import
what_of word.LineMatch = statements.line_match
what_of word.LineAdd = statements.line_add
what_of word.LineDismiss = statements.line_dismiss
what_of word.LineReopen = statements.line_reopen
what_of word.MatchAuto = statements.match_auto
what_of word.Lines = statements.lines
what_of word.Statements = statements.listed_statements
what_of word.Reconcile = reconciliations.reconcile
what_of word.ReconcileStatement = reconciliations.reconcile_statement
what_of word.Recons = reconciliations.recons
what_of word.Voided = posting.voided
what_of word.Undo = gives what.Undo
what_of word.Redo = gives what.Redo
what_of word.Status = gives what.Status

-- A command, read to the end of its line: its word comes first, then the version that it is for, which may be absent,
-- and then its own members.
abbrev pub command : Reader Command
command = do
  word ← needed word_form (codes "do")
  at ← optional whole (codes "at")
  what ← what_of word
  ends (record { at = at; what = what })
