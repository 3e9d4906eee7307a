-- The state of a book that is kept as rows.
use Rattle.std.specs.Prelude.{ℕ, List}
use Rattle.book_undo.specs.Book.{Book, book_of}
use Rattle.book_undo.specs.declared.edit.Edit.{Edit}
use Rattle.book_opening.specs.declared.saved.Saved.{Saved}
use Rattle.book_rows.specs.declared.head.Head.{Head}

-- The present book; the number that the next thing gets; the count of the changes so far; how many steps lead from the
-- fresh book to the present one; how many of them are kept to go back, and how many were taken back and are kept to go
-- forth again; and these steps. The step back under a number leads from the book that so many steps lead to, to the
-- one before it; the step forth under a number leads to the book that so many steps lead to, from the one before it.
pub record State : Type 0 where
  pub book : Book
  pub next : ℕ
  pub version : ℕ
  pub position : ℕ
  pub past : ℕ
  pub later : ℕ
  pub back : List (ℕ × Edit)
  pub forth : List (ℕ × Edit)

-- The state that was saved.
abbrev pub state_of : Saved → State
state_of saved = record {
  book = book_of saved.plain;
  next = saved.next;
  version = saved.version;
  position = saved.position;
  past = saved.past;
  later = saved.later;
  back = saved.back.entries;
  forth = saved.forth.entries;
}

-- The head of a state: it has what belongs to the whole book.
abbrev pub head_of : State → Head
head_of state = record {
  next = state.next;
  version = state.version;
  position = state.position;
  past = state.past;
  later = state.later;
  currency = state.book.currency;
}
