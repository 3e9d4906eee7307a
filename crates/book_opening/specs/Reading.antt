-- What is known of a state while its rows are read.
use Rattle.std.specs.Prelude.{ℕ, ◌≡◌, ◌<◌, ◌⊎◌, true, [], Option, Some, None, Result, Ok, Err}
use Rattle.std.specs.List.{AllByRecursion}
use Rattle.book_keeper.specs.Rows.{rank}
use Rattle.book_keeper.specs.declared.row.RowKey.{RowKey}
use Rattle.book_commodity.specs.Table.{with_entry}
use Rattle.book_undo.specs.Book.{with_thing}
use Rattle.book_rows.specs.declared.format.RowFormat.TheVariants.{Two}
use Rattle.book_rows.specs.declared.head.Head.{Head}
use Rattle.book_rows.specs.declared.record.Record.{Record}
use Rattle.book_rows.specs.declared.record.Record.TheVariants as kept
use Rattle.book_opening.specs.BookRows.{behind_head, records_of}
use Rattle.book_opening.specs.FirstOdd.{IsFirstOdd}
use Rattle.book_opening.specs.Opening.{CanBeRow}
use Rattle.book_opening.specs.State.{State, head_of, state_of}
use Rattle.book_opening.specs.Steps.{AreCounted, IsEven, counts_fit}
use Rattle.book_opening.specs.declared.fault.OpenFault.{OpenFault}
use Rattle.book_opening.specs.declared.fault.OpenFault.TheVariants as fault
use Rattle.book_opening.specs.declared.saved.Saved.{Saved}

-- A state has this head, and nothing behind it.
pub record IsBegun (head : Head) (state : State) : Type 0 where
  pub head_is : head_of state ≡ head
  pub nothing : behind_head state ≡ []

-- The state with what a row behind the head stands for, under the row's number. A head is not put.
abbrev pub with_record : ℕ → Record → State → State
with_record number (kept.Head head) state = state
with_record number (kept.Thing thing) state = record state { book = with_thing number thing state.book }
with_record number (kept.Back edit) state = record state { back = with_entry number edit state.back }
with_record number (kept.Forth edit) state = record state { forth = with_entry number edit state.forth }

-- The key of bad rows that is answered, if one is.
abbrev pub bad_key : OpenFault → Option RowKey
bad_key (fault.BadRows kind id) = Some (record { kind = kind; id = id })
bad_key fault.Keeper = None
bad_key fault.OutOfMemory = None

-- What is answered of a state whose rows were all read: that state, or the first step that is missing, or that its
-- head doesn't count.
abbrev pub IsWhole : State → Result Saved OpenFault → Type 0
IsWhole state (Ok saved) = (state_of saved ≡ state) × IsFirstOdd state None
IsWhole state (Err fault) = (key : RowKey) × (bad_key fault ≡ Some key) × IsFirstOdd state (Some key)

-- The first bad key where the row of a key is bad: a step below it that is missing, or that the head doesn't count; or
-- else that key.
abbrev pub IsFirstBad : State → RowKey → RowKey → Type 0
IsFirstBad state key first =
    ((first ≡ key)
    × (counts_fit (head_of state) ≡ true → (other : RowKey) → rank other < rank key → IsEven state other))
    ⊎ ((rank first < rank key) × IsFirstOdd state (Some first))

-- What holds of every state that was read: each of its records has a spelling in format 2, and its steps are those that
-- its head counts.
pub record IsReadable (state : State) : Type 0 where
  pub spelled : AllByRecursion (CanBeRow Two) (records_of state)
  pub counted : AreCounted state
