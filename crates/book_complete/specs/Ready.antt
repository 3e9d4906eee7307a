-- What a run of the program has to meet so that it is complete: rows that open, an input within the limits, and counts
-- of faults that do not rise.
use Rattle.std.specs.Prelude.{◌≡◌, ℕ, ◌^◌, ◌≤◌, IsTrue, List, Option, Some, length}
use Rattle.book_keeper.specs.Rows.{Rises}
use Rattle.book_keeper.specs.declared.row.Row.{Row}
use Rattle.book_lines.specs.Lines.{AreAll}
use Rattle.book_engine.specs.Machine.{Machine}
use Rattle.book_engine.specs.Opens.{Opens, OpensTo}
use Rattle.book_app.specs.StatusClause.{Keeping}
use Rattle.book_app.specs.Words.{AreNoWords, Import, Lines, Sample, Serve, Work}
use Rattle.book_complete.specs.Quiet.{AreQuiet, DidNotRise, FaultsSeen}

-- The words are of the program's grammar.
abbrev pub AreWords : List (List ℕ) → Type 0
AreWords words = AreNoWords words → ⊥

-- The keeper is honest, and the rows that it held before open as a machine.
pub record BookOpens (keeping : Keeping) : Type 0 where
  pub honest : IsTrue keeping.honest
  pub rows : List Row
  pub held : keeping.held rows
  pub rise : Rises rows
  pub machine : Machine
  pub opens : OpensTo rows (Opens machine)

-- The input reports what it has left: at most a million lines, of at most 2 ^ 33 bytes.
pub record HasFewLines (input : Option (List ℕ)) : Type 0 where
  pub bytes : List ℕ
  pub known : input ≡ Some bytes
  pub few : AreAll bytes

-- The input reports what it has left: at most 8 MiB.
pub record HasOneFile (input : Option (List ℕ)) : Type 0 where
  pub bytes : List ℕ
  pub known : input ≡ Some bytes
  pub few : length bytes ≤ 2 ^ 23

-- By the work, what it has to meet. A sample has a book of its own and reads no input; links are no input either.
abbrev pub IsReady : Work → Keeping → FaultsSeen → Option (List ℕ) → Type 0
IsReady Lines keeping faults input = BookOpens keeping × AreQuiet keeping faults × HasFewLines input
IsReady (Import import) keeping faults input = BookOpens keeping × AreQuiet keeping faults × HasOneFile input
IsReady (Serve serve) keeping faults input =
    BookOpens keeping × DidNotRise keeping.faults_before keeping.faults_after
    × DidNotRise faults.ports_before faults.ports_after
IsReady (Sample number) keeping faults input = DidNotRise faults.output_before faults.output_after
