-- Counts of faults that did not rise, and the statuses that rest on one that did.
use Rattle.std.specs.Prelude.{◌≡◌, ℕ, ◌-◌, ◌^◌, ◌<◌, List}
use Rattle.book_app.specs.Causes.{Faults, HasCauses, counted}
use Rattle.book_app.specs.StatusClause.{Keeping}
use Rattle.book_app.specs.Words.{AreNoWords}
use Rattle.book_app.specs.declared.status.Status.{Status}

-- A count is as it was, below its last value, at which it would stand still.
pub record DidNotRise (before now : ℕ) : Type 0 where
  pub same : now ≡ before
  pub counts : before < 2 ^ 64 - 1

-- The counts of faults of the input, of the output and of the ports, before and after.
pub record FaultsSeen : Type 0 where
  pub input_before : ℕ
  pub input_after : ℕ
  pub output_before : ℕ
  pub output_after : ℕ
  pub ports_before : ℕ
  pub ports_after : ℕ

-- All counts of faults before, with that of the keeper.
abbrev pub all_before : Keeping → FaultsSeen → Faults
all_before keeping faults =
    counted keeping.faults_before faults.input_before faults.output_before faults.ports_before

-- And after.
abbrev pub all_after : Keeping → FaultsSeen → Faults
all_after keeping faults = counted keeping.faults_after faults.input_after faults.output_after faults.ports_after

-- The status has its cause, as the call of the program says: the words, or a count that rose.
abbrev pub IsCaused : List (List ℕ) → Keeping → FaultsSeen → Status → Type 0
IsCaused words keeping faults status =
    HasCauses (AreNoWords words) (all_before keeping faults) (all_after keeping faults) status

-- The counts of the keeper, the input and the output did not rise.
pub record AreQuiet (keeping : Keeping) (faults : FaultsSeen) : Type 0 where
  pub keeper : DidNotRise keeping.faults_before keeping.faults_after
  pub input : DidNotRise faults.input_before faults.input_after
  pub output : DidNotRise faults.output_before faults.output_after
