-- What a text says in MT940: its statements, or the first place at which a check fails.
use Rattle.std.specs.Prelude.{ℕ, List, [], ◌∷◌, ◌++◌, is_some, Result, Err}
use Rattle.book_commodity.specs.declared.commodity.Commodity.{Commodity}
use Rattle.book_statement.specs.declared.bad.Bad.TheVariants.{NoStatement, CutOff}
use Rattle.book_statement.specs.declared.fault.StatementFault.{StatementFault}
use Rattle.book_statement.specs.declared.statement.Statement.{Statement}
use Rattle.book_statement.specs.Checks.{Place, place, check, first_fault, unless_fault}
use Rattle.book_statement.specs.Lists.{each_after}
use Rattle.book_statement.specs.Texts.{lines_of}
use Rattle.mt940_read.specs.FileChecks.{checks_of}
use Rattle.mt940_read.specs.Messages.{closing_of}
use Rattle.mt940_read.specs.Statements.{statements_of}
use Rattle.mt940_read.specs.Tree.{FieldLines, MessageLines, messages_of}

-- The place of a field, with the messages and the fields before it.
abbrev pub field_place : List (ℕ × Commodity) → List MessageLines → List FieldLines → FieldLines → List Place
field_place known messages before f = place f.line (checks_of known messages before f) ∷ []

-- The place at the end of a message: its closing balance has to be there.
abbrev pub end_place : List (ℕ × Commodity) → MessageLines → Place
end_place known m = place m.last (check (is_some (closing_of known m.fields)) CutOff ∷ [])

-- The places of a message behind others: its fields, each behind those before it, and its end.
abbrev pub message_places : List (ℕ × Commodity) → List MessageLines → MessageLines → List Place
message_places known before m =
    each_after (field_place known before) [] m.fields ++ end_place known m ∷ []

-- The places of a file: those of its messages, each behind those before it.
abbrev pub file_places : List (ℕ × Commodity) → List MessageLines → List Place
file_places known messages = each_after (message_places known) [] messages

-- The statements of messages, or their first fault; a file without a message has no statement.
abbrev pub result_of : List (ℕ × Commodity) → List MessageLines → Result (List Statement) StatementFault
result_of known [] = Err (record { line = 0; bad = NoStatement })
result_of known (m ∷ ms) = unless_fault (first_fault (file_places known (m ∷ ms))) (statements_of known (m ∷ ms))

-- What a text says, where the book has these commodities.
unfoldable pub reading : List (ℕ × Commodity) → List ℕ → Result (List Statement) StatementFault
reading known text = result_of known (messages_of (lines_of text))
