-- What is said of an import on its way.
use Rattle.std.specs.Prelude.{◌≡◌, ℕ, List, [], ◌∷◌, ◌++◌, ⊤}
use Rattle.book_statement.specs.Keys.{key}
use Rattle.book_statement.specs.declared.line.Line.{Line}
use Rattle.book_statement.specs.declared.line_key.LineKey.{LineKey}
use Rattle.book_statement.specs.declared.statement_line.StatementLine.{StatementLine}
use Rattle.book_import.specs.KnownKeys.{HasKeys}
use Rattle.book_import.specs.declared.added.Additions.{Additions}
use Rattle.book_import.specs.declared.importing.Importing.{Importing}

-- Whatever the book's lines are: where the keys known are those of these lines and of the lines that were added, what
-- was added changes by this, and the keys known are so again.
abbrev pub Takes : (List (ℕ × Line) → Additions → Additions) → Importing → Importing → Type 0
Takes change old new =
    (lines : List (ℕ × Line)) → HasKeys old.known (lines ++ old.added.lines)
    → (new.added ≡ change lines old.added) × HasKeys new.known (lines ++ new.added.lines)

-- These keys are those of lines of an account that say this, one after another.
abbrev pub AreKeysOf : ℕ → List LineKey → List StatementLine → Type 0
AreKeysOf account [] [] = ⊤
AreKeysOf account [] (body ∷ bodies) = ⊥
AreKeysOf account (key_ ∷ keys) [] = ⊥
AreKeysOf account (key_ ∷ keys) (body ∷ bodies) =
    (key_ ≡ key account body key_.ordinal) × AreKeysOf account keys bodies
