-- What an import of bank statements adds to a book. A line is known again by its key, so that a file that is imported
-- again, or one that overlaps with an earlier one, adds no line a second time (rules of this project).
use Rattle.std.specs.Prelude.{ℕ, ◌+◌, Bool, if◌then◌else◌, List, [], ◌∷◌, ◌++◌, Option, Some, None, unwrap_or}
use Rattle.std.specs.List.{list_any}
use Rattle.book_statement.specs.Keys.{keys_of}
use Rattle.book_statement.specs.declared.held.Held.{Held}
use Rattle.book_statement.specs.declared.line.Line.{Line}
use Rattle.book_statement.specs.declared.line_key.LineKey.{LineKey}
use Rattle.book_statement.specs.declared.line_state.LineState.TheVariants.{Open}
use Rattle.book_statement.specs.declared.statement.Statement.{Statement}
use Rattle.book_statement.specs.declared.statement_line.StatementLine.{StatementLine}
use Rattle.book_sound.specs.LineRules.{is_same_key, key_of_line}
use Rattle.book_sound.specs.StatementRules.{is_same_statement}
use Rattle.book_import.specs.declared.added.Additions.{Additions}

-- A statement of a file, and the account of the book that it goes to.
pub record Bound : Type 0 where
  pub account : ℕ
  pub statement : Statement

-- What a book keeps of such a statement beside its lines.
abbrev pub held_of : Bound → Held
held_of bound = record {
  account = bound.account;
  account_text = bound.statement.account_text;
  number = bound.statement.number;
  opening = bound.statement.opening;
  closing = bound.statement.closing;
  day = bound.statement.day;
  ties = bound.statement.ties;
}

-- The number of the first of some statements that is equal to this one in all fields, if there is one.
abbrev pub number_among : Held → List (ℕ × Held) → Option ℕ
number_among held [] = None
number_among held (entry ∷ more) =
    if is_same_statement held entry.1 then Some entry.0 else number_among held more

-- Whether a line of this key is among some lines.
abbrev pub has_key : LineKey → List (ℕ × Line) → Bool
has_key key lines = list_any (λ entry. is_same_key key (key_of_line entry.1)) lines

-- The line of this key that the book holds once it is added: it belongs to the statement of this number, and is open.
abbrev pub new_line : ℕ → LineKey → StatementLine → Line
new_line statement key body =
    record { account = key.account; statement = statement; ordinal = key.ordinal; body = body; state = Open }

-- ---- what is added, one thing after another

-- Nothing is added yet.
abbrev pub nothing_added : ℕ → Additions
nothing_added next = record { statements = []; lines = []; seen = 0; next = next }

-- A line whose key is in the book, or was added before, is seen. Another is added under the next number.
abbrev pub with_line : List (ℕ × Line) → ℕ → LineKey → StatementLine → Additions → Additions
with_line lines statement key body added =
    if has_key key (lines ++ added.lines)
    then record added { seen = added.seen + 1 }
    else record added {
      lines = added.lines ++ (added.next, new_line statement key body) ∷ [];
      next = added.next + 1;
    }

-- The lines of a statement, each with its key, in their order.
abbrev pub with_lines : List (ℕ × Line) → ℕ → List LineKey → List StatementLine → Additions → Additions
with_lines lines statement [] bodies added = added
with_lines lines statement (key ∷ keys) [] added = added
with_lines lines statement (key ∷ keys) (body ∷ bodies) added =
    with_lines lines statement keys bodies (with_line lines statement key body added)

-- A statement that is there, under a number, is not added. Another is added under the next number.
abbrev pub with_held : Option ℕ → Held → Additions → Additions
with_held (Some number) held added = added
with_held None held added =
    record added { statements = added.statements ++ (added.next, held) ∷ []; next = added.next + 1 }

-- A statement of the file and then its lines. They name the equal statement that is in the book or was added before,
-- and where there is none, the one that is added here.
abbrev pub with_statement : List (ℕ × Held) → List (ℕ × Line) → Bound → Additions → Additions
with_statement statements lines bound added =
    let there = number_among (held_of bound) (statements ++ added.statements) in
    with_lines lines (unwrap_or there added.next)
    (keys_of bound.account bound.statement.lines) bound.statement.lines
    (with_held there (held_of bound) added)

-- The statements of the file, in their order.
abbrev pub with_statements : List (ℕ × Held) → List (ℕ × Line) → List Bound → Additions → Additions
with_statements statements lines [] added = added
with_statements statements lines (bound ∷ more) added =
    with_statements statements lines more (with_statement statements lines bound added)

-- What the import of a file adds to a book with these statements and lines, from the next number on.
abbrev pub imported : List (ℕ × Held) → List (ℕ × Line) → List Bound → ℕ → Additions
imported statements lines file next = with_statements statements lines file (nothing_added next)
