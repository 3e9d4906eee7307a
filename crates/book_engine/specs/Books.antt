-- The machine of whole books that an engine keeps: its steps, which are kept as edits, lead to the other books.
use Rattle.book_history.specs.History.{later_books, past_books}
use Rattle.book_opening.specs.State.{State}
use Rattle.book_engine.specs.Kept.{Kept}
use Rattle.book_engine.specs.Machine.{Machine}

-- The machine whose steps a state keeps as edits.
abbrev pub machine_of : State → Machine
machine_of state = record {
  past = past_books state.back state.book;
  book = state.book;
  later = later_books state.forth state.book;
  next = state.next;
  version = state.version;
  position = state.position;
}

-- The machine that an engine keeps.
abbrev pub machine_kept : Kept → Machine
machine_kept kept = machine_of kept.state
