-- The commands on the lines of bank statements, and the questions for the lines and the statements of an account.
use Rattle.std.specs.Prelude.{ℕ, not, Bool, true, false, if◌then◌else◌, List, [], ◌∷◌, filter, map, Option, Some, None}
use Rattle.std.specs.Prelude.{is_none}
use Rattle.book_commodity.specs.Rules.{broken_where}
use Rattle.book_commodity.specs.Table.{value_of}
use Rattle.book_commodity.specs.declared.kind.Kind.TheVariants as kind
use Rattle.book_statement.specs.declared.held.Held.{Held}
use Rattle.book_statement.specs.declared.line.Line.{Line}
use Rattle.book_statement.specs.declared.line_state.LineState.{LineState}
use Rattle.book_statement.specs.declared.line_state.LineState.TheVariants.{Open, Matched, Dismissed}
use Rattle.book_sound.specs.Naming.{line_names, statement_names}
use Rattle.book_undo.specs.Book.{Book, with_thing}
use Rattle.book_undo.specs.declared.thing.Thing.TheVariants as thing
use Rattle.book_command.specs.declared.answer.Answer.TheVariants as answer
use Rattle.book_command.specs.declared.answer.HeldShown.{HeldShown}
use Rattle.book_command.specs.declared.answer.LineShown.{LineShown}
use Rattle.book_command.specs.declared.rule.Rule.{Rule}
use Rattle.book_command.specs.declared.rule.Rule.TheVariants.{LineTaken, Unknown}
use Rattle.book_step.specs.Accounts.{unknown_account}
use Rattle.book_step.specs.Outcome.{Outcome, Broken, changing, leaving}
use Rattle.book_step.specs.State.{State}

-- The book has no line of this number.
abbrev pub unknown_line : List (ℕ × Line) → ℕ → Option Rule
unknown_line lines number = broken_where (is_none (value_of number lines)) (Unknown kind.Line number)

-- Whether a line in this state is open: it is neither matched with a split nor dismissed.
abbrev pub is_open : LineState → Bool
is_open Open = true
is_open (Matched split) = false
is_open Dismissed = false

-- The line of a number isn't open (a rule of this project).
abbrev pub line_taken : ℕ → Line → Option Rule
line_taken number line = broken_where (not (is_open line.state)) (LineTaken number)

-- The line in another state.
abbrev pub in_state : Line → LineState → Line
in_state line state = record line { state = state }

-- ---- the commands

-- The dismissal of a line, if it is there: it is open.
abbrev pub line_dismiss_at : State → ℕ → Option Line → Outcome
line_dismiss_at state number None = Broken (Unknown kind.Line number)
line_dismiss_at state number (Some line) =
    changing state (line_taken number line ∷ [])
    (with_thing number (thing.Line (in_state line Dismissed)) state.book) 0 answer.LineDismiss

-- An open line of the book is dismissed.
abbrev pub line_dismiss : State → ℕ → Outcome
line_dismiss state number = line_dismiss_at state number (value_of number state.book.lines)

-- The opening of a line, if it is there. One that is open leaves the book as it is; the split of one that was matched
-- stays as it is.
abbrev pub line_reopen_at : State → ℕ → Option Line → Outcome
line_reopen_at state number None = Broken (Unknown kind.Line number)
line_reopen_at state number (Some line) =
    if is_open line.state then leaving state [] answer.LineReopen
    else changing state [] (with_thing number (thing.Line (in_state line Open)) state.book) 0 answer.LineReopen

-- A line of the book is open again.
abbrev pub line_reopen : State → ℕ → Outcome
line_reopen state number = line_reopen_at state number (value_of number state.book.lines)

-- ---- the questions

-- The rules of asking for the lines or the statements of an account: it is one of the book's.
abbrev pub account_asked : Book → ℕ → List (Option Rule)
account_asked book account = unknown_account book.accounts account ∷ []

-- A line with its number.
abbrev pub line_shown : ℕ × Line → LineShown
line_shown entry = record { id = entry.0; line = entry.1 }

-- The lines of an account among some lines, in their order.
abbrev pub lines_of : ℕ → List (ℕ × Line) → List LineShown
lines_of account lines = map line_shown (filter (λ entry. line_names account entry.1) lines)

-- A statement with its number.
abbrev pub statement_shown : ℕ × Held → HeldShown
statement_shown entry = record { id = entry.0; held = entry.1 }

-- The statements of an account among some statements, in their order.
abbrev pub statements_of : ℕ → List (ℕ × Held) → List HeldShown
statements_of account statements = map statement_shown (filter (λ entry. statement_names account entry.1) statements)
