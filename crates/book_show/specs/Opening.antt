-- The present book of a keeper's rows, as the machine of whole books has it that opens from them.
use Rattle.std.specs.Prelude.{ℕ, ◌≡◌, ◌≤◌, ⊤, List, None, Some, Result, Ok, Err, OnOk, IfErr}
use Rattle.book_keeper.specs.Faults.{Rose}
use Rattle.book_keeper.specs.declared.row.Row.{Row}
use Rattle.book_opening.specs.Opening.{OpenAs}
use Rattle.book_opening.specs.State.{State}
use Rattle.book_opening.specs.declared.fault.OpenFault.{OpenFault}
use Rattle.book_opening.specs.declared.fault.OpenFault.TheVariants as fault
use Rattle.book_state_check.specs.SoundState.{unsound_at}
use Rattle.book_engine.specs.Machine.{Machine}
use Rattle.book_engine.specs.Opening.{row_key}
use Rattle.book_engine.specs.Opens.{Bad, Opens, OpensTo}
use Rattle.book_broken.specs.Broken.{HasRule}
use Rattle.book_broken.specs.declared.first.Broken.{Broken}
use Rattle.book_show.specs.declared.opening.BookError.{BookError}
use Rattle.book_show.specs.declared.opening.BookError.TheVariants as error
use Rattle.book_show.specs.declared.opening.Opened.{Opened}

-- The rows open as a machine with this present book, after this count of changes.
abbrev pub HaveBook : List Row → Opened → Type 0
HaveBook rows now =
    (machine : Machine) × OpensTo rows (Opens machine) × (machine.book ≡ now.book) × (machine.version ≡ now.version)

-- The first key at which a state is not sound, and the rule that is broken there.
abbrev pub BreaksFirst : State → Broken → Type 0
BreaksFirst state broken = (unsound_at state ≡ Some broken.key) × HasRule state broken

-- What the rows are refused by: the least bad key, or the first at which they are not sound, with the rule that is
-- broken there. That the keeper failed, or the program is out of memory, says nothing of them.
abbrev pub AreRefused : List Row → BookError → Type 0
AreRefused rows (error.BadRows kind id) = OpensTo rows (Bad (row_key kind id))
AreRefused rows (error.UnsoundBook broken) = (state : State) × OpenAs rows state × BreaksFirst state broken
AreRefused rows error.Keeper = ⊤
AreRefused rows error.OutOfMemory = ⊤

-- What is answered of rows.
abbrev pub OpenedAs : List Row → Result Opened BookError → Type 0
OpenedAs rows (Ok now) = HaveBook rows now
OpenedAs rows (Err error) = AreRefused rows error

-- What is answered of a state that was read: its book and version, or the first key at which it is not sound, with the
-- rule.
abbrev pub CheckedAs : State → Result Opened BookError → Type 0
CheckedAs state (Ok now) =
    (now.book ≡ state.book) × (now.version ≡ state.version) × (unsound_at state ≡ None)
CheckedAs state (Err (error.BadRows kind id)) = ⊥
CheckedAs state (Err (error.UnsoundBook broken)) = BreaksFirst state broken
CheckedAs state (Err error.Keeper) = ⊥
CheckedAs state (Err error.OutOfMemory) = ⊤

-- What is answered of rows that could not be read.
abbrev pub book_error : OpenFault → BookError
book_error fault.Keeper = error.Keeper
book_error (fault.BadRows kind id) = error.BadRows kind id
book_error fault.OutOfMemory = error.OutOfMemory

-- The keeper's count of faults never falls. It stays where the call succeeds, and where it is answered that the keeper
-- failed, it rose.
pub record HasBookCause {T : Type 0} (before now : ℕ) (result : Result T BookError) : Type 0 where
  pub later : before ≤ now
  pub done : OnOk result (now ≡ before)
  pub failed : IfErr result (λ why. why ≡ error.Keeper → Rose before now)
