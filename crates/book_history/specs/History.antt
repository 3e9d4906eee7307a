-- The steps that are kept to go back and to go forth.
use Rattle.std.specs.Prelude.{ℕ, suc, ◌≡◌, ◌+◌, ◌-◌, ◌≤◌, ⊤, List, [], ◌∷◌, length, reverse}
use Rattle.book_history.specs.Steps.{AreSound, books_to}
use Rattle.book_undo.specs.Book.{Book}
use Rattle.book_undo.specs.declared.edit.Edit.{Edit}

-- The numbers of entries are this one and those that follow it, one by one.
abbrev pub AreNumberedFrom : {T : Type 0} → ℕ → List (ℕ × T) → Type 0
AreNumberedFrom number [] = ⊤
AreNumberedFrom number (entry ∷ entries) = (entry.0 ≡ number) × AreNumberedFrom (suc number) entries

-- The books before the present one, the nearest first: the steps back are taken from the last to the first.
abbrev pub past_books : List (ℕ × Edit) → Book → List Book
past_books back book = books_to (reverse back) book

-- The books that were taken back, the nearest first.
abbrev pub later_books : List (ℕ × Edit) → Book → List Book
later_books forth book = books_to forth book

-- `position` steps lead from the fresh book to the present one. The last `past` of them are kept to go back: the step
-- under a number leads from the book to which that number of steps leads, to the one before it. `later` steps that were
-- taken back are kept to go forth again: the step under a number leads to the book to which that number of steps leads.
-- Together at most 256 are kept. Each step is sound from the book at which it stands.
pub record IsHistory (next : ℕ) (book : Book) (position past later : ℕ) (back forth : List (ℕ × Edit)) : Type 0 where
  pub reached : past ≤ position
  pub most : past + later ≤ 256
  pub back_numbers : AreNumberedFrom (position - past + 1) back
  pub back_count : length back ≡ past
  pub forth_numbers : AreNumberedFrom (position + 1) forth
  pub forth_count : length forth ≡ later
  pub back_sound : AreSound next (reverse back) book
  pub forth_sound : AreSound next forth book
