-- An edit in two passes over its leaves. The first takes those that free lines from the splits that they are matched
-- with, or delete them, and the second the others. So a transaction is deleted only after the line that was matched
-- with its split was opened, and a statement after its lines.
use Rattle.std.specs.Prelude.{Bool, true, false, if◌then◌else◌, List, [], ◌∷◌, is_none}
use Rattle.book_sound.specs.LineRules.{matched_split}
use Rattle.book_undo.specs.Book.{Book}
use Rattle.book_undo.specs.Edit.{edited, Leaf, OfCurrency, OfPut, OfGone}
use Rattle.book_undo.specs.declared.edit.Edit.{Edit, Currency, Put, Gone, All'}
use Rattle.book_undo.specs.declared.thing.Thing.{Thing}
use Rattle.book_undo.specs.declared.thing.Thing.TheVariants as thing
use Rattle.book_undo.specs.declared.thing.ThingKind.{ThingKind}
use Rattle.book_undo.specs.declared.thing.ThingKind.TheVariants as kind

-- The edit that is a leaf alone.
abbrev pub edit_of : Leaf → Edit
edit_of (OfCurrency currency) = Currency currency
edit_of (OfPut number thing) = Put number thing
edit_of (OfGone kind number) = Gone kind number

-- Whether a thing is a line that is matched with no split.
abbrev pub is_free_line : Thing → Bool
is_free_line (thing.Line line) = is_none (matched_split line.state)
is_free_line _ = false

-- Whether a kind is that of lines.
abbrev pub is_line : ThingKind → Bool
is_line kind.Line = true
is_line _ = false

-- Whether an edit only deletes a line, or puts one that is matched with no split.
abbrev pub frees_line : Edit → Bool
frees_line (Currency currency) = false
frees_line (Put number thing) = is_free_line thing
frees_line (Gone kind number) = is_line kind
frees_line (All' shape parts) = false

-- The book after those of some leaves that free lines, from the last to the first.
abbrev pub freed : List Leaf → Book → Book
freed [] book = book
freed (leaf ∷ more) book =
    if frees_line (edit_of leaf) then edited (edit_of leaf) (freed more book) else freed more book

-- The book after the others, from the first to the last.
abbrev pub changed : List Leaf → Book → Book
changed [] book = book
changed (leaf ∷ more) book =
    changed more (if frees_line (edit_of leaf) then book else edited (edit_of leaf) book)
