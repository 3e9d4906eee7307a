-- What holds of every command on what the book keeps of bank statements: what stays, and what an import adds to it.
use Rattle.std.specs.Prelude.{◌≡◌, ℕ, Bool, List, [], map, Option, Some, Result, Ok, Err}
use Rattle.std.specs.List.{list_any}
use Rattle.book_commodity.specs.Table.{value_of}
use Rattle.book_statement.specs.declared.fault.StatementFault.{StatementFault}
use Rattle.book_statement.specs.declared.held.Held.{Held}
use Rattle.book_statement.specs.declared.line.Line.{Line}
use Rattle.book_statement.specs.declared.line_key.LineKey.{LineKey}
use Rattle.book_statement.specs.declared.statement.Statement.{Statement}
use Rattle.book_sound.specs.StatementRules.{is_same_statement}
use Rattle.book_undo.specs.Book.{Book}
pub use Rattle.book_import.specs.Import.{has_key}
use Rattle.book_import.specs.Import.{Bound, held_of}
use Rattle.book_import.specs.Laws.{AreThere, count_lines}
use Rattle.book_step.specs.Importing.{bound_to, said}
use Rattle.book_command.specs.declared.command.Format.{Format}

-- ---- what every command leaves

-- A line says what another did: its account, its statement, its ordinal and what the bank reports are the same. Its
-- state may be another.
pub record SaysSame (old new : Line) : Type 0 where
  pub account : new.account ≡ old.account
  pub statement : new.statement ≡ old.statement
  pub ordinal : new.ordinal ≡ old.ordinal
  pub body : new.body ≡ old.body

-- Each line of a book is in another under its number, and says the same (a rule of this project: a line of a bank
-- statement is never deleted).
pub record KeepsLines (old new : Book) : Type 0 where
  pub each : (number : ℕ) (line : Line) → value_of number old.lines ≡ Some line
      → (later : Line) × (value_of number new.lines ≡ Some later) × SaysSame line later

-- Each statement of a book is in another under its number, as it was (a rule of this project: a bank statement is never
-- changed or deleted).
pub record KeepsStatements (old new : Book) : Type 0 where
  pub each : (number : ℕ) (held : Held) → value_of number old.statements ≡ Some held
      → value_of number new.statements ≡ Some held

-- The lines of two books have the same keys.
abbrev pub SameKeys : Book → Book → Type 0
SameKeys one other = (key : LineKey) → has_key key one.lines ≡ has_key key other.lines

-- Whether a statement that is equal in all fields is among some statements.
abbrev pub has_statement : Held → List (ℕ × Held) → Bool
has_statement held statements = list_any (λ entry. is_same_statement held entry.1) statements

-- Two books have the same statements, under whatever numbers.
abbrev pub SameStatements : Book → Book → Type 0
SameStatements one other = (held : Held) → has_statement held one.statements ≡ has_statement held other.statements

-- ---- what an import finds in a book

-- The statements that a file says, each with the account of the book that it goes to. A file with a fault has none.
abbrev pub bound_in : Book → Option ℕ → Result (List Statement) StatementFault → List Bound
bound_in book given (Ok statements) = map (bound_to book.bindings given) statements
bound_in book given (Err fault) = []

-- Those of the file of an import.
abbrev pub file_of : Book → Format → List ℕ → Option ℕ → List Bound
file_of book format text given = bound_in book given (said book.commodities text format)

-- All of the file is in the book: of each statement an equal one, and of each line one that has its key.
abbrev pub HasFile : Book → Format → List ℕ → Option ℕ → Type 0
HasFile book format text given = AreThere book.statements book.lines (file_of book format text given)

-- How many lines the file has.
abbrev pub lines_in : Book → Format → List ℕ → Option ℕ → ℕ
lines_in book format text given = count_lines (file_of book format text given)

-- Whether an equal statement is among those of a file.
abbrev pub is_in_file : Held → List Bound → Bool
is_in_file held file = list_any (λ bound. is_same_statement held (held_of bound)) file
