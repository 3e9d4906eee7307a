-- What an engine keeps, seen as the state whose rows a keeper holds.
use Rattle.std.specs.Prelude.{◌≡◌, ℕ, Bool, List}
use Rattle.book_free.specs.Kept as free
use Rattle.book_ledger.specs.Changes.{AreBounded}
use Rattle.book_ledger.specs.Ledger.{Keeps}
use Rattle.book_ledger.specs.Opening.{AreNew}
use Rattle.book_ledger.specs.Page.{Page}
use Rattle.book_undo.specs.Book.{book_of}
use Rattle.book_undo.specs.declared.plain.Plain.{Plain}
use Rattle.book_opening.specs.State.{State, state_of}
use Rattle.book_turns.specs.Whole.{IsWhole}
use Rattle.book_engine.specs.declared.engine.Engine.TheInside.{Inside}

-- The state, with its steps; whether a keeper was given the rows of a state, which until then is the fresh one; the
-- tables that hold the book; the registers of its accounts, with their lots; what is kept of its free splits; and for
-- how many more steps back and forth there is room.
pub record Kept : Type 0 where
  pub state : State
  pub saved : Bool
  pub plain : Plain
  pub registers : List (ℕ × Page)
  pub free : free.Kept
  pub back_room : ℕ
  pub forth_room : ℕ

-- What contracts see of an engine.
abbrev pub kept_by : Inside → Kept
kept_by engine = record {
  state = state_of engine.state;
  saved = engine.saved;
  plain = engine.state.plain;
  registers = engine.registers.entries;
  free = engine.free;
  back_room = engine.state.back.spare;
  forth_room = engine.state.forth.spare;
}

-- What holds of every engine: its state is whole, its registers are those of its book, each with a count of changes of
-- 64 bits, and what it keeps of the free splits is that of its book.
pub record IsKept (engine : Inside) : Type 0 where
  pub whole : IsWhole (state_of engine.state) engine.saved
  pub registers : Keeps engine.registers.entries (book_of engine.state.plain)
  pub bounded : AreBounded engine.registers.entries
  pub free : free.Keeps engine.free (book_of engine.state.plain)

-- What an engine keeps beside its book was just made from it: each register was changed once for each of its rows, no
-- row was reckoned into lots, and no free split was put in or taken out since.
pub record IsNew (kept : Kept) : Type 0 where
  pub registers : AreNew kept.registers
  pub free : kept.free.index.changes ≡ 0
