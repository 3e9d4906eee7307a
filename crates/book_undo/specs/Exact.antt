-- When an edit says exactly what becomes different in a book: all of it, and nothing else.
use Rattle.std.specs.Prelude.{◌≢◌, ◌↔◌, ℕ, ◌==◌, Bool, true, false, ◌&&◌, ◌||◌, List, [], ◌∷◌, IsTrue}
use Rattle.book_undo.specs.Book.{Book, thing_at}
use Rattle.book_undo.specs.Edit.{edited, Leaf, OfCurrency, OfPut, OfGone, leaves, key_of}
use Rattle.book_undo.specs.EditRules.{IsAllowed}
use Rattle.book_undo.specs.Thing.{row_kind}
use Rattle.book_undo.specs.declared.edit.Edit.{Edit}
use Rattle.book_undo.specs.declared.thing.ThingKind.{ThingKind}

-- Whether a leaf is one for a number of a kind.
abbrev pub touches : ThingKind → ℕ → Leaf → Bool
touches kind number leaf = (row_kind kind == (key_of leaf).kind) && (number == (key_of leaf).number)

-- Whether one of some leaves is.
abbrev pub any_touches : ThingKind → ℕ → List Leaf → Bool
any_touches kind number [] = false
any_touches kind number (leaf ∷ more) = touches kind number leaf || any_touches kind number more

-- Whether one of some leaves is one for the currency.
abbrev pub has_currency : List Leaf → Bool
has_currency [] = false
has_currency (OfCurrency currency ∷ more) = true
has_currency (OfPut number thing ∷ more) = has_currency more
has_currency (OfGone kind number ∷ more) = has_currency more

-- An edit is exact for a book: it may be applied to it, and it has a leaf for each key at which the book differs from
-- the one after the edit, and for no other.
pub record IsExact (book : Book) (edit : Edit) : Type 0 where
  pub allowed : IsAllowed book edit
  pub things : (kind : ThingKind) (number : ℕ) → IsTrue (any_touches kind number (leaves edit))
      ↔ (thing_at kind number (edited edit book) ≢ thing_at kind number book)
  pub currency : IsTrue (has_currency (leaves edit)) ↔ ((edited edit book).currency ≢ book.currency)
