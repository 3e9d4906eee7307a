-- The steps that lead from a book to others, and the first of them that is broken.
use Rattle.std.specs.Prelude.{◌≡◌, ℕ, ◌||◌, ⊤, Bool, false, is_some, if◌then◌else◌, List, [], ◌∷◌, Option, Some}
use Rattle.std.specs.Prelude.{None}
use Rattle.book_commodity.specs.Rules.{first_broken}
use Rattle.book_check.specs.FirstUnsound.{first_unsound}
use Rattle.book_sound.specs.Soundness.{IsSoundBook, AreDrawn}
use Rattle.book_undo.specs.Book.{Book}
use Rattle.book_undo.specs.Edit.{edited}
use Rattle.book_undo.specs.EditRules.{IsAllowed, edit_rules}
use Rattle.book_undo.specs.Inverse.{LeadsBack}
use Rattle.book_undo.specs.declared.edit.Edit.{Edit}

-- The books to which steps lead, one after another from a book. A step is an edit with its number.
abbrev pub books_to : List (ℕ × Edit) → Book → List Book
books_to [] book = []
books_to (step ∷ steps) book = edited step.1 book ∷ books_to steps (edited step.1 book)

-- An edit is a sound step from a book: it may be applied there, and leads to a sound book, whose numbers are all below
-- the next.
pub record IsSoundStep (next : ℕ) (book : Book) (edit : Edit) : Type 0 where
  pub allowed : IsAllowed book edit
  pub sound : IsSoundBook (edited edit book)
  pub drawn : AreDrawn (edited edit book) next

-- Each of the steps is sound, from the book to which those before it lead.
abbrev pub AreSound : ℕ → List (ℕ × Edit) → Book → Type 0
AreSound next [] book = ⊤
AreSound next (step ∷ steps) book = IsSoundStep next book step.1 × AreSound next steps (edited step.1 book)

-- Whether a book is not sound, or has a number that is not below the next.
unfoldable pub is_unsound : ℕ → Book → Bool
is_unsound next book = is_some (first_unsound book next)

-- Whether an edit may not be applied to a book.
unfoldable pub is_refused : Book → Edit → Bool
is_refused book edit = is_some (first_broken (edit_rules book edit))

-- Whether an edit is no sound step from a book.
abbrev pub is_broken : ℕ → Book → Edit → Bool
is_broken next book edit = is_refused book edit || is_unsound next (edited edit book)

-- The number of the first of the steps that is broken. Beyond it no step is asked.
abbrev pub first_fault : ℕ → List (ℕ × Edit) → Book → Option ℕ
first_fault next [] book = None
first_fault next (step ∷ steps) book =
    if is_broken next book step.1 then Some step.0 else first_fault next steps (edited step.1 book)

-- A step leads from one book to another: its edit is sound there and leads to the other, from which the inverse leads
-- back.
pub record IsStepOn (next : ℕ) (book : Book) (edit inverse : Edit) (later : Book) : Type 0 where
  pub sound : IsSoundStep next book edit
  pub unbroken : is_broken next book edit ≡ false
  pub reached : later ≡ edited edit book
  pub back : LeadsBack book edit inverse
