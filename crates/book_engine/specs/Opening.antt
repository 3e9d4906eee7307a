-- What is answered of a keeper's rows.
use Rattle.std.specs.Prelude.{ℕ, ◌≡◌, ◌≤◌, ◌⊎◌, ⊤, true, false, IsTrue, List, Some, None, Result, Ok, Err, OnOk}
use Rattle.std.specs.Prelude.{IfErr, OnErr}
use Rattle.book_keeper.specs.Faults.{Rose}
use Rattle.book_keeper.specs.declared.keeper.Keeper.{Ghosts}
use Rattle.book_keeper.specs.declared.row.Row.{Row}
use Rattle.book_keeper.specs.declared.row.RowKey.{RowKey}
use Rattle.book_rows.specs.declared.format.RowFormat.{RowFormat}
use Rattle.book_rows.specs.declared.format.RowFormat.TheVariants.{One, Two}
use Rattle.book_opening.specs.Opening.{OpenIn, StaysSure}
use Rattle.book_opening.specs.State.{State}
use Rattle.book_opening.specs.declared.fault.OpenFault.{OpenFault}
use Rattle.book_opening.specs.declared.fault.OpenFault.TheVariants as fault
use Rattle.book_state_check.specs.SoundState.{unsound_at}
use Rattle.book_turns.specs.Whole.{fresh_state}
use Rattle.book_engine.specs.Books.{machine_of}
use Rattle.book_engine.specs.Kept.{Kept}
use Rattle.book_engine.specs.Machine.{Machine}
use Rattle.book_engine.specs.Opens.{Bad, Opens, OpensTo, Unsound}
use Rattle.book_engine.specs.declared.fault.OpenError.{OpenError}
use Rattle.book_engine.specs.declared.fault.OpenError.TheVariants as error

-- The key of a kind and a number.
abbrev pub row_key : ℕ → ℕ → RowKey
row_key kind id = record { kind = kind; id = id }

-- What is answered of rows: what they open as. An engine is answered that keeps the machine. That the keeper failed,
-- or the program is out of memory, says nothing of them.
abbrev pub Opened : List Row → Result Kept OpenError → Type 0
Opened rows (Ok kept) = OpensTo rows (Opens (machine_of kept.state))
Opened rows (Err (error.BadRows kind id)) = OpensTo rows (Bad (row_key kind id))
Opened rows (Err (error.UnsoundBook kind id)) = OpensTo rows (Unsound (row_key kind id))
Opened rows (Err error.Keeper) = ⊤
Opened rows (Err error.OutOfMemory) = ⊤

-- The answer is this state, or the first key at which it is unsound, unless the keeper failed or the program is out of
-- memory.
abbrev pub IsOpenedAs : State → Result Kept OpenError → Type 0
IsOpenedAs state (Ok kept) = kept.state ≡ state
IsOpenedAs state (Err (error.BadRows kind id)) = ⊥
IsOpenedAs state (Err (error.UnsoundBook kind id)) = unsound_at state ≡ Some (row_key kind id)
IsOpenedAs state (Err error.Keeper) = ⊤
IsOpenedAs state (Err error.OutOfMemory) = ⊤

-- This holds, unless the keeper failed or the program is out of memory.
abbrev pub WhereOpened : {T : Type 0} → Result T OpenError → Type 0 → Type 0
WhereOpened (Ok it) Holds = Holds
WhereOpened (Err (error.BadRows kind id)) Holds = Holds
WhereOpened (Err (error.UnsoundBook kind id)) Holds = Holds
WhereOpened (Err error.Keeper) Holds = ⊤
WhereOpened (Err error.OutOfMemory) Holds = ⊤

-- Rows were written anew: they were those of a sound state in format 1, and are those of the same state in format 2.
-- They open as the same machine.
pub record AreAnew (old new : List Row) : Type 0 where
  pub state : State
  pub was : OpenIn One old state
  pub sound : unsound_at state ≡ None
  pub now : OpenIn Two new state
  pub same : (machine : Machine) → OpensTo old (Opens machine) → OpensTo new (Opens machine)

-- A keeper whose book was opened: its path stays; it is honest, and knows its rows, now only if it was and did before;
-- where it knows them they stay, or were written anew; and the next keeper finds no rows that it could not find before,
-- but those that were held, written anew.
pub record WasOpened {K : Type 0} (keeper : Ghosts K) (before now : K) : Type 0 where
  pub same_path : keeper.path_given now ≡ keeper.path_given before
  pub still_honest : IsTrue (keeper.honest now) → IsTrue (keeper.honest before)
  pub still_sure : IsTrue (keeper.sure now) → IsTrue (keeper.sure before)
  pub rows : IsTrue (keeper.sure now) → (rows : List Row) → keeper.holds before rows
      → keeper.holds now rows ⊎ ((new : List Row) × AreAnew rows new × keeper.holds now new)
  pub leaves : IsTrue (keeper.honest now) → (rows : List Row) → keeper.may_leave now rows
      → keeper.may_leave before rows
      ⊎ (IsTrue (keeper.sure before) × ((old : List Row) → keeper.holds before old → AreAnew old rows))

-- The error is that the keeper failed, or that the program is out of memory.
abbrev pub IsOfKeeperOrMemory : OpenError → Type 0
IsOfKeeperOrMemory error.Keeper = ⊤
IsOfKeeperOrMemory error.OutOfMemory = ⊤
IsOfKeeperOrMemory (error.BadRows kind id) = ⊥
IsOfKeeperOrMemory (error.UnsoundBook kind id) = ⊥

-- The rows that a keeper held stay, where it still knows them.
abbrev pub KeepsRows : {K : Type 0} → Ghosts K → K → K → Type 0
KeepsRows keeper before now =
    IsTrue (keeper.sure now) → (rows : List Row) → keeper.holds before rows → keeper.holds now rows

-- What a migration makes of a keeper whose rows are those of a state in a format. Where it is done, the keeper holds
-- the state's rows in format 2, and where it is not, those that it held. Only rows of format 1 are written: then
-- the next keeper may find the rows of before, or those in format 2.
pub record IsMigration {K T : Type 0} (keeper : Ghosts K) (format : RowFormat) (state : State) (before now : K)
    (result : Result T OpenError) : Type 0 where
  pub same_path : keeper.path_given now ≡ keeper.path_given before
  pub still_honest : IsTrue (keeper.honest now) → IsTrue (keeper.honest before)
  pub still_sure : IsTrue (keeper.sure now) → IsTrue (keeper.sure before)
  pub known : OnOk result (StaysSure keeper before now)
  pub rows : OnOk result (IsTrue (keeper.sure now) → (rows : List Row) → keeper.holds before rows
      → OpenIn format rows state → (new : List Row) × OpenIn Two new state × keeper.holds now new)
  pub unchanged : OnErr result (KeepsRows keeper before now)
  pub leaves : IsTrue (keeper.honest now) → (rows : List Row) → keeper.may_leave now rows
      → keeper.may_leave before rows ⊎ ((format ≡ One) × IsTrue (keeper.sure before)
      × ((held : List Row) → keeper.holds before held → OpenIn One held state → OpenIn Two rows state))

-- This holds where rows are answered to be bad, or unsound.
abbrev pub WhereRefused : {T : Type 0} → Result T OpenError → Type 0 → Type 0
WhereRefused (Ok it) Holds = ⊤
WhereRefused (Err (error.BadRows kind id)) Holds = Holds
WhereRefused (Err (error.UnsoundBook kind id)) Holds = Holds
WhereRefused (Err error.Keeper) Holds = ⊤
WhereRefused (Err error.OutOfMemory) Holds = ⊤

-- What is answered without rows: an engine that keeps the fresh state, before a keeper was given rows.
abbrev pub IsBegun : Result Kept OpenError → Type 0
IsBegun (Ok kept) = (kept.state ≡ fresh_state) × (kept.saved ≡ false)
IsBegun (Err (error.BadRows kind id)) = ⊥
IsBegun (Err (error.UnsoundBook kind id)) = ⊥
IsBegun (Err error.Keeper) = ⊥
IsBegun (Err error.OutOfMemory) = ⊤

-- What is answered of rows that could not be read.
abbrev pub open_error : OpenFault → OpenError
open_error fault.Keeper = error.Keeper
open_error (fault.BadRows kind id) = error.BadRows kind id
open_error fault.OutOfMemory = error.OutOfMemory

-- What is answered of a state that was read: an engine that keeps it, for which rows were given; or the first key at
-- which it is unsound.
abbrev pub IsChecked : State → Result Kept OpenError → Type 0
IsChecked state (Ok kept) =
    (kept.state ≡ state) × (kept.saved ≡ true) × (unsound_at state ≡ None)
IsChecked state (Err (error.BadRows kind id)) = ⊥
IsChecked state (Err (error.UnsoundBook kind id)) = unsound_at state ≡ Some (row_key kind id)
IsChecked state (Err error.Keeper) = ⊥
IsChecked state (Err error.OutOfMemory) = ⊤

-- The keeper's count of faults never falls. It stays where the call succeeds, and where it is answered that the keeper
-- failed, it rose.
pub record HasOpenCause {T : Type 0} (before now : ℕ) (result : Result T OpenError) : Type 0 where
  pub later : before ≤ now
  pub done : OnOk result (now ≡ before)
  pub failed : IfErr result (λ why. why ≡ error.Keeper → Rose before now)
