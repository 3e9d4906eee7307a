-- The edits that put what an import adds into a book.
use Rattle.std.specs.Prelude.{ℕ, List, ◌++◌, map}
use Rattle.book_statement.specs.declared.held.Held.{Held}
use Rattle.book_statement.specs.declared.line.Line.{Line}
use Rattle.book_undo.specs.declared.edit.Edit.{Edit, Put}
use Rattle.book_undo.specs.declared.thing.Thing.TheVariants as thing
use Rattle.book_import.specs.declared.added.Additions.{Additions}

-- The edits that put the statements,
abbrev pub statement_edits : List (ℕ × Held) → List Edit
statement_edits added = map (λ entry. Put entry.0 (thing.Held entry.1)) added

-- those that put the lines,
abbrev pub line_edits : List (ℕ × Line) → List Edit
line_edits added = map (λ entry. Put entry.0 (thing.Line entry.1)) added

-- and all of them, by rising keys.
abbrev pub edits_of : Additions → List Edit
edits_of added = statement_edits added.statements ++ line_edits added.lines
