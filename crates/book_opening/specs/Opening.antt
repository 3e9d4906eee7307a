-- What rows open as: the state whose rows they are, or a key at which they are bad.
use Rattle.std.specs.Prelude.{ℕ, ◌≡◌, ◌≤◌, ◌<◌, ◌⊎◌, ⊤, IsTrue, List, [], Option, Some, None, Result, Ok}
use Rattle.std.specs.Prelude.{Err, OnOk, IfErr}
use Rattle.std.specs.List.{AllByRecursion}
use Rattle.book_keeper.specs.Faults.{Rose}
use Rattle.book_keeper.specs.Rows.{rank, first_row}
use Rattle.book_keeper.specs.declared.keeper.Keeper.{Ghosts}
use Rattle.book_keeper.specs.declared.row.Row.{Row}
use Rattle.book_keeper.specs.declared.row.RowKey.{RowKey}
use Rattle.book_rows.specs.Format.{format_in}
use Rattle.book_rows.specs.Row.{IsKeyOf, IsRecord, StandsFor, kind_of}
use Rattle.book_rows.specs.declared.format.RowFormat.{RowFormat}
use Rattle.book_rows.specs.declared.head.Head.{Head}
use Rattle.book_rows.specs.declared.record.Record.{Record}
use Rattle.book_rows.specs.declared.record.Record.TheVariants as kept
use Rattle.book_opening.specs.BookRows.{records_of, row_of, rows_format, rows_of}
use Rattle.book_opening.specs.State.{State, state_of}
use Rattle.book_opening.specs.Steps.{AreCounted, IsOdd, SomeRow}
use Rattle.book_opening.specs.declared.fault.OpenFault.{OpenFault}
use Rattle.book_opening.specs.declared.fault.OpenFault.TheVariants as fault
use Rattle.book_opening.specs.declared.saved.Saved.{Saved}

-- A row can't be opened as any record of a format.
abbrev pub IsNoRecord : RowFormat → Row → Type 0
IsNoRecord format row = (it : Record) → StandsFor format row.key row.body it → ⊥

-- The key of the head.
abbrev pub head_key : RowKey
head_key = record { kind = 1; id = 0 }

-- There are rows, and none is at the key of the head.
abbrev pub LacksHead : List Row → Type 0
LacksHead rows = (rows ≡ [] → ⊥) × (SomeRow (λ row. row.key ≡ head_key) rows → ⊥)

-- Rows are bad at a key: the row there can't be opened in the format of the rows; or it is the head and missing; or it
-- is a step that is missing or that the head doesn't count.
abbrev pub IsBad : List Row → RowKey → Type 0
IsBad rows key =
    SomeRow (λ row. (row.key ≡ key) × IsNoRecord (rows_format rows) row) rows
    ⊎ (((key ≡ head_key) × LacksHead rows) ⊎ IsOdd rows key)

-- The least key at which rows are bad.
pub record IsLeastBad (rows : List Row) (key : RowKey) : Type 0 where
  pub bad : IsBad rows key
  pub least : (other : RowKey) → IsBad rows other → rank key ≤ rank other

-- A record under a number can be a row of a format.
abbrev pub CanBeRow : RowFormat → ℕ × Record → Type 0
CanBeRow format entry =
    IsKeyOf (record { kind = kind_of entry.1; id = entry.0 }) entry.1 × IsRecord format entry.1

-- A record under a number is the one as which its row of a format opens.
abbrev pub IsOnlyRecord : RowFormat → ℕ × Record → Type 0
IsOnlyRecord format entry =
    CanBeRow format entry
    × ((it : Record) → StandsFor format (row_of format entry).key (row_of format entry).body it → it ≡ entry.1)

-- Rows of a format open as a state: they are its rows, each of its records can be a row, and its steps are those that
-- its head counts.
pub record OpenIn (format : RowFormat) (rows : List Row) (state : State) : Type 0 where
  pub are : rows ≡ rows_of format state
  pub spelled : AllByRecursion (CanBeRow format) (records_of state)
  pub counted : AreCounted state

-- Rows open as a state, in the one format or in the other.
abbrev pub OpenAs : List Row → State → Type 0
OpenAs rows state = (format : RowFormat) × OpenIn format rows state

-- What is answered of rows: that there are none; their format, and the state that they open as; or the least key at
-- which they are bad. That the keeper failed, or the program is out of memory, says nothing of them.
abbrev pub Answers : List Row → Result (Option (RowFormat × Saved)) OpenFault → Type 0
Answers rows (Ok None) = rows ≡ []
Answers rows (Ok (Some found)) = OpenIn found.0 rows (state_of found.1)
Answers rows (Err (fault.BadRows kind id)) = IsLeastBad rows (record { kind = kind; id = id })
Answers rows (Err fault.Keeper) = ⊤
Answers rows (Err fault.OutOfMemory) = ⊤

-- The rows begin with that of a head, in a format.
abbrev pub Begins : RowFormat → List Row → Head → Type 0
Begins format rows head = first_row rows ≡ Some (row_of format (0, kept.Head head))

-- If rows are answered to be bad, it is at the least key.
abbrev pub IsBadFor : List Row → OpenFault → Type 0
IsBadFor rows (fault.BadRows kind id) = IsLeastBad rows (record { kind = kind; id = id })
IsBadFor rows fault.Keeper = ⊤
IsBadFor rows fault.OutOfMemory = ⊤

-- A row behind the head is answered to be bad: it can't be opened in the format.
abbrev pub IsBadThing : RowFormat → Row → OpenFault → Type 0
IsBadThing format row (fault.BadRows kind id) =
    (kind ≡ row.key.kind) × (id ≡ row.key.id) × IsNoRecord format row
IsBadThing format row fault.Keeper = ⊥
IsBadThing format row fault.OutOfMemory = ⊤

-- The first row is answered to be bad: it stands behind the place of the head, which is missing; or it can't be
-- opened in its own format.
abbrev pub IsBadHead : Row → OpenFault → Type 0
IsBadHead row (fault.BadRows kind id) =
    ((rank head_key < rank row.key) × (kind ≡ 1) × (id ≡ 0))
    ⊎ ((rank row.key ≤ rank head_key) × (kind ≡ row.key.kind) × (id ≡ row.key.id)
    × IsNoRecord (format_in row.body) row)
IsBadHead row fault.Keeper = ⊥
IsBadHead row fault.OutOfMemory = ⊤

-- A keeper that was read: its path stays; it is honest, and knows its rows, now only if it was and did before; where
-- it knows them they stay; and the next keeper finds no rows that it could not find before.
pub record WasRead {K : Type 0} (keeper : Ghosts K) (before now : K) : Type 0 where
  pub same_path : keeper.path_given now ≡ keeper.path_given before
  pub still_honest : IsTrue (keeper.honest now) → IsTrue (keeper.honest before)
  pub still_sure : IsTrue (keeper.sure now) → IsTrue (keeper.sure before)
  pub same_rows : IsTrue (keeper.sure now) → (rows : List Row) → keeper.holds before rows → keeper.holds now rows
  pub leaves : IsTrue (keeper.honest now) → (rows : List Row) → keeper.may_leave now rows
      → keeper.may_leave before rows

-- An honest keeper that knew its rows before it was read knows them now.
abbrev pub StaysSure : {K : Type 0} → Ghosts K → K → K → Type 0
StaysSure keeper before now =
    IsTrue (keeper.honest now) → IsTrue (keeper.sure before) → IsTrue (keeper.sure now)

-- This holds at a fault, unless the keeper failed or the program is out of memory.
abbrev pub WhereBad : OpenFault → Type 0 → Type 0
WhereBad (fault.BadRows kind id) Holds = Holds
WhereBad fault.Keeper Holds = ⊤
WhereBad fault.OutOfMemory Holds = ⊤

-- This holds, unless the keeper failed or the program is out of memory.
abbrev pub WhereRead : {T : Type 0} → Result T OpenFault → Type 0 → Type 0
WhereRead (Ok it) Holds = Holds
WhereRead (Err why) Holds = WhereBad why Holds

-- The answer is this state, unless the keeper failed or the program is out of memory.
abbrev pub IsOpened : State → Result (Option (RowFormat × Saved)) OpenFault → Type 0
IsOpened state (Ok None) = ⊥
IsOpened state (Ok (Some found)) = state_of found.1 ≡ state
IsOpened state (Err (fault.BadRows kind id)) = ⊥
IsOpened state (Err fault.Keeper) = ⊤
IsOpened state (Err fault.OutOfMemory) = ⊤

-- The keeper's count of faults never falls. It stays where the call succeeds, and where it is answered that the keeper
-- failed, it rose.
pub record HasOpenCause {T : Type 0} (before now : ℕ) (result : Result T OpenFault) : Type 0 where
  pub later : before ≤ now
  pub done : OnOk result (now ≡ before)
  pub failed : IfErr result (λ error. error ≡ fault.Keeper → Rose before now)
