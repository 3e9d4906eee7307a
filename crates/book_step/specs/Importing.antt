-- The import of the statements of a file (GnuCash Manual, importing transactions from files): what the file says, which
-- account each of its statements goes to, which rule is broken first, and what is added.
use Rattle.std.specs.Prelude.{ℕ, ◌+◌, ◌==◌, nat_lt, not, Bool, false, ◌&&◌, if◌then◌else◌, List, [], ◌∷◌, ◌++◌}
use Rattle.std.specs.Prelude.{find, flat_map, length, map, Option, Some, None, option_map, unwrap_or, Result, Ok, Err}
use Rattle.bai2_read.specs.Reading as bai2
use Rattle.mt940_read.specs.Reading as mt940
use Rattle.qif_read.specs.Qif as qif
use Rattle.qif_read.specs.declared.order.DateOrder.{DateOrder}
use Rattle.qif_read.specs.declared.order.DateOrder.TheVariants.{MonthDay, DayMonth}
use Rattle.book_commodity.specs.Rules.{broken_where, first_broken}
use Rattle.book_commodity.specs.Table.{value_of}
use Rattle.book_commodity.specs.declared.commodity.Commodity.{Commodity}
use Rattle.book_commodity.specs.declared.counted.Counted.TheVariants.{Lines, Statements}
use Rattle.book_accounts.specs.declared.account.Account.{Account}
use Rattle.book_statement.specs.Currencies.{is_currency_named}
use Rattle.book_statement.specs.Keys.{same_text}
use Rattle.book_statement.specs.declared.binding.Binding.{Binding}
use Rattle.book_statement.specs.declared.fault.StatementFault.{StatementFault}
use Rattle.book_statement.specs.declared.held.Held.{Held}
use Rattle.book_statement.specs.declared.line.Line.{Line}
use Rattle.book_statement.specs.declared.statement.Statement.{Statement}
use Rattle.book_undo.specs.Book.{Book}
use Rattle.book_undo.specs.Edit.{together}
use Rattle.book_undo.specs.declared.edit.Edit.{Edit, All}
use Rattle.book_import.specs.Edits.{edits_of}
use Rattle.book_import.specs.Import.{Bound, imported}
use Rattle.book_import.specs.declared.added.Additions.{Additions}
use Rattle.book_step.specs.Accounts.{unknown_given_account, unknown_given_commodity}
use Rattle.book_step.specs.Commodities.{wrong_currency}
use Rattle.book_step.specs.Outcome.{Outcome, Broken, changing, leaving, unless_broken}
use Rattle.book_step.specs.State.{State}
use Rattle.book_command.specs.declared.answer.Answer.{Answer}
use Rattle.book_command.specs.declared.answer.Answer.TheVariants as answer
use Rattle.book_command.specs.declared.command.Format.{Format}
use Rattle.book_command.specs.declared.command.Format.TheVariants.{Mt940, Bai2, QifMonthFirst, QifDayFirst}
use Rattle.book_command.specs.declared.rule.Rule.{Rule}
use Rattle.book_command.specs.declared.rule.Rule.TheVariants.{BadStatement, Limit, Unbound, WrongCurrency}

-- ---- what the file says

-- The text of a QIF file, in the commodity of the book that it is in (Quicken's description of QIF: the file names
-- none).
abbrev pub said_in : DateOrder → List ℕ → Option Commodity → Result (List Statement) StatementFault
said_in order text None = Ok []
said_in order text (Some currency) = qif.reading currency order text

-- What the text of a file says in a format: its statements, or its first fault. The currencies of the book are those
-- that it may be in.
abbrev pub said : List (ℕ × Commodity) → List ℕ → Format → Result (List Statement) StatementFault
said commodities text Mt940 = mt940.reading commodities text
said commodities text Bai2 = bai2.reading commodities text
said commodities text (QifMonthFirst currency) = said_in MonthDay text (value_of currency commodities)
said commodities text (QifDayFirst currency) = said_in DayMonth text (value_of currency commodities)

-- ---- the rules that are asked before it is read

-- The commodity that is given with a format.
abbrev pub currency_given : Format → Option ℕ
currency_given Mt940 = None
currency_given Bai2 = None
currency_given (QifMonthFirst currency) = Some currency
currency_given (QifDayFirst currency) = Some currency

-- A commodity that is given is a currency.
abbrev pub wrong_given_currency : List (ℕ × Commodity) → Option ℕ → Option Rule
wrong_given_currency commodities None = None
wrong_given_currency commodities (Some number) = wrong_currency commodities number

-- What is given is in the book: the account, and the commodity, which is a currency.
abbrev pub given_rules : Book → Format → Option ℕ → List (Option Rule)
given_rules book format account =
    unknown_given_account book.accounts account
    ∷ unknown_given_commodity book.commodities (currency_given format)
    ∷ wrong_given_currency book.commodities (currency_given format)
    ∷ []

-- ---- the account of each statement

-- The account that an account text stands for: that of the binding of this text (GnuCash keeps for each online account
-- the account of the book that it goes to).
abbrev pub bound_account : List (ℕ × Binding) → List ℕ → Option ℕ
bound_account bindings text =
    option_map (λ entry. entry.1.account) (find (λ entry. same_text entry.1.text text) bindings)

-- The account that a statement goes to: the one that is given, or else the one that its account text stands for.
abbrev pub goes_to : List (ℕ × Binding) → Option ℕ → Statement → Option ℕ
goes_to bindings (Some account) statement = Some account
goes_to bindings None statement = bound_account bindings statement.account_text

-- Whether there is a commodity, and it is the currency of this code.
abbrev pub has_code : List ℕ → Option Commodity → Bool
has_code code None = false
has_code code (Some commodity) = is_currency_named code commodity

-- The account is in another commodity than the currency of this code.
abbrev pub other_currency : List (ℕ × Commodity) → List ℕ → Option Account → Option Rule
other_currency commodities code None = None
other_currency commodities code (Some account) =
    broken_where (not (has_code code (value_of account.commodity commodities))) (WrongCurrency account.commodity)

-- The rules of a statement with the account that it goes to: there is one, and it is in the statement's currency.
abbrev pub account_rules : Book → Statement → Option ℕ → List (Option Rule)
account_rules book statement None = Some (Unbound statement.account_text) ∷ []
account_rules book statement (Some account) =
    other_currency book.commodities statement.currency (value_of account book.accounts) ∷ []

-- The same, where this account or none is given.
abbrev pub statement_rules : Book → Option ℕ → Statement → List (Option Rule)
statement_rules book given statement = account_rules book statement (goes_to book.bindings given statement)

-- The rules of all statements of the file, one statement after another.
abbrev pub file_rules : Book → Option ℕ → List Statement → List (Option Rule)
file_rules book given statements = flat_map (statement_rules book given) statements

-- A statement with its account. There is one where no rule is broken.
abbrev pub bound_to : List (ℕ × Binding) → Option ℕ → Statement → Bound
bound_to bindings given statement =
    record { account = unwrap_or (goes_to bindings given statement) 0; statement = statement }

-- ---- what is added

-- What the statements of a file add to the book, from the next number on: those of them that are not in the book in all
-- their fields, and those of their lines whose key is not in the book.
abbrev pub added_by : State → Option ℕ → List Statement → Additions
added_by state given statements =
    imported state.book.statements state.book.lines (map (bound_to state.book.bindings given) statements) state.next

-- Whether that is nothing.
abbrev pub adds_nothing : Additions → Bool
adds_nothing added = (length added.statements == 0) && (length added.lines == 0)

-- How many numbers it draws: one for each statement and for each line.
abbrev pub drawn_by : Additions → ℕ
drawn_by added = length added.statements + length added.lines

-- The book with it: the numbers are above all others, so it stands at the end.
abbrev pub book_with : Book → Additions → Book
book_with book added = record book {
  statements = book.statements ++ added.statements;
  lines = book.lines ++ added.lines;
}

-- A book has at most 1,000,000 lines of statements (a limit of this project).
abbrev pub too_many_lines : List (ℕ × Line) → List (ℕ × Line) → Option Rule
too_many_lines lines added = broken_where (nat_lt 1000000 (length lines + length added)) (Limit Lines 1000000)

-- A book has at most 100,000 statements (a limit of this project).
abbrev pub too_many_statements : List (ℕ × Held) → List (ℕ × Held) → Option Rule
too_many_statements statements added =
    broken_where (nat_lt 100000 (length statements + length added)) (Limit Statements 100000)

-- The book has room for what is added.
abbrev pub room_rules : Book → Additions → List (Option Rule)
room_rules book added =
    too_many_lines book.lines added.lines ∷ too_many_statements book.statements added.statements ∷ []

-- The numbers of what is added, and how many lines of the file were in the book already, or earlier in the file.
abbrev pub import_answer : Additions → Answer
import_answer added = answer.Import (map (λ entry. entry.0) added.statements) (map (λ entry. entry.0) added.lines)
    added.seen

-- ---- the command

-- The step of what is added. Where it is nothing the book stays as it is.
abbrev pub import_of : State → List (Option Rule) → Additions → Outcome
import_of state rules added =
    if adds_nothing added then leaving state (rules ++ room_rules state.book added) (import_answer added)
    else changing state (rules ++ room_rules state.book added) (book_with state.book added) (drawn_by added)
    (import_answer added)

-- The import of the statements of a file.
abbrev pub import_statements : State → List (Option Rule) → Option ℕ → List Statement → Outcome
import_statements state rules given statements =
    import_of state (rules ++ file_rules state.book given statements) (added_by state given statements)

-- The import of what a file says, behind some rules. That it is broken is asked after them.
abbrev pub import_said : State → List (Option Rule) → Option ℕ → Result (List Statement) StatementFault → Outcome
import_said state rules given (Err fault) = unless_broken (first_broken rules) (Broken (BadStatement fault))
import_said state rules given (Ok statements) = import_statements state rules given statements

-- The statements of a file that are not in the book, and their lines that are not, are added: one change of the book.
-- They go to the account that is given, or else to those that their account texts stand for.
abbrev pub import_file : State → Format → List ℕ → Option ℕ → Outcome
import_file state format text given =
    import_said state (given_rules state.book format given) given (said state.book.commodities text format)

-- ---- the edit

-- One edit alone, or else the list of all.
abbrev pub whole_edit : List Edit → Edit
whole_edit [] = All []
whole_edit (edit ∷ more) = together edit more

-- The edit that puts what is added.
abbrev pub import_edit : Additions → Edit
import_edit added = whole_edit (edits_of added)
