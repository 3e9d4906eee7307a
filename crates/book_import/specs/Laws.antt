-- What holds of every import: which numbers it draws, which keys are in the book after it, and when it adds nothing.
use Rattle.std.specs.Prelude.{◌≡◌, ℕ, ◌+◌, ◌≤◌, Bool, true, false, ◌||◌, List, [], ◌∷◌, ◌++◌, ⊤, length, None, IsSome}
use Rattle.std.specs.List.{AllByRecursion, flat_map, list_all, list_any}
use Rattle.book_statement.specs.Keys.{keys_of}
use Rattle.book_statement.specs.declared.held.Held.{Held}
use Rattle.book_statement.specs.declared.line.Line.{Line}
use Rattle.book_statement.specs.declared.line_key.LineKey.{LineKey}
use Rattle.book_sound.specs.LineRules.{is_same_key, key_of_line}
use Rattle.book_sound.specs.Tests.{is_live}
use Rattle.book_import.specs.Import.{Bound, has_key, held_of, nothing_added, number_among}
use Rattle.book_import.specs.declared.added.Additions.{Additions}

-- The numbers of the entries rise, from a first one on, and are below a next one.
abbrev pub AreDrawn : {T : Type 0} → ℕ → ℕ → List (ℕ × T) → Type 0
AreDrawn from next [] = from ≤ next
AreDrawn from next (entry ∷ more) = (from ≤ entry.0) × AreDrawn (entry.0 + 1) next more

-- The numbers of what is added, and the next number after them.
abbrev pub HasDrawn : ℕ → Additions → Type 0
HasDrawn from added = AreDrawn from added.next added.statements × AreDrawn from added.next added.lines

-- The keys of the lines of a file.
abbrev pub keys_in : List Bound → List LineKey
keys_in file = flat_map (λ bound. keys_of bound.account bound.statement.lines) file

-- Whether a key is one of some keys.
abbrev pub is_among : LineKey → List LineKey → Bool
is_among key keys = list_any (λ other. is_same_key key other) keys

-- After an import the keys of the book's lines are those that were there, and those of the file.
abbrev pub AddsKeys : List (ℕ × Line) → List Bound → Additions → Type 0
AddsKeys lines file added =
    (key : LineKey) → has_key key (lines ++ added.lines) ≡ (has_key key lines || is_among key (keys_in file))

-- Each of these entries passes a test against the entries of a table and those before it.
abbrev pub AreApart : {T : Type 0} → (List (ℕ × T) → T → Type 0) → List (ℕ × T) → List (ℕ × T) → Type 0
AreApart apart before [] = ⊤
AreApart apart before (entry ∷ more) = apart before entry.1 × AreApart apart (before ++ entry ∷ []) more

-- What is added was not there: no statement is equal to one of the book or to another that is added, and no line has
-- the key of one of the book or of another that is added.
abbrev pub AreNew : List (ℕ × Held) → List (ℕ × Line) → Additions → Type 0
AreNew statements lines added =
    AreApart (λ before held. number_among held before ≡ None) statements added.statements
    × AreApart (λ before line. has_key (key_of_line line) before ≡ false) lines added.lines

-- Each line that is added names a statement that is in the book, or is added.
abbrev pub AreNamed : List (ℕ × Held) → Additions → Type 0
AreNamed statements added =
    AllByRecursion (λ entry. is_live (statements ++ added.statements) entry.1.statement ≡ true) added.lines

-- How many lines a file has.
abbrev pub count_lines : List Bound → ℕ
count_lines [] = 0
count_lines (bound ∷ more) = length bound.statement.lines + count_lines more

-- All of a file is in a book: of each statement an equal one, and of each line one that has its key.
abbrev pub AreThere : List (ℕ × Held) → List (ℕ × Line) → List Bound → Type 0
AreThere statements lines [] = ⊤
AreThere statements lines (bound ∷ more) =
    IsSome (number_among (held_of bound) statements)
    × (list_all (λ key. has_key key lines) (keys_of bound.account bound.statement.lines) ≡ true)
    × AreThere statements lines more

-- Nothing is added, and so many lines were seen.
abbrev pub only_seen : ℕ → ℕ → Additions
only_seen seen next = record (nothing_added next) { seen = seen }
