-- The edit that leads back.
use Rattle.std.specs.Prelude.{◌≡◌, ℕ, Option, Some, None}
use Rattle.book_undo.specs.Book.{Book, thing_at}
use Rattle.book_undo.specs.Edit.{Leaf, OfCurrency, OfPut, OfGone, edited}
use Rattle.book_undo.specs.EditRules.{IsAllowed}
use Rattle.book_undo.specs.Thing.{kind_of}
use Rattle.book_undo.specs.declared.edit.Edit.{Edit}
use Rattle.book_undo.specs.declared.thing.Thing.{Thing}
use Rattle.book_undo.specs.declared.thing.ThingKind.{ThingKind}

-- The change after which a number of a kind has this thing, or none.
abbrev pub leaf_restoring : ThingKind → ℕ → Option Thing → Leaf
leaf_restoring kind number (Some thing) = OfPut number thing
leaf_restoring kind number None = OfGone kind number

-- The change after which what another one changes is as it is in the book.
abbrev pub leaf_back : Book → Leaf → Leaf
leaf_back book (OfCurrency currency) = OfCurrency book.currency
leaf_back book (OfPut number thing) =
    leaf_restoring (kind_of thing) number (thing_at (kind_of thing) number book)
leaf_back book (OfGone kind number) = leaf_restoring kind number (thing_at kind number book)

-- After an edit of a book, another leads back: it is allowed in the edited book, and leads from there to exactly the
-- book before, with all its tables and its currency.
pub record LeadsBack (book : Book) (edit back : Edit) : Type 0 where
  pub allowed : IsAllowed (edited edit book) back
  pub same : edited back (edited edit book) ≡ book
