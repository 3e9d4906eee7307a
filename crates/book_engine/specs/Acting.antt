-- What a command does to an engine over a keeper.
use Rattle.std.specs.Prelude.{ℕ, ◌≡◌, ◌≢◌, ◌≤◌, ⊤, Result, OnOk, IfErr}
use Rattle.book_keeper.specs.Faults.{Rose}
use Rattle.book_command.specs.declared.answer.Answer.{Answer}
use Rattle.book_command.specs.declared.refusal.Refusal.{Refusal}
use Rattle.book_command.specs.declared.refusal.Refusal.TheVariants as refusal
use Rattle.book_engine.specs.Kept.{Kept}
use Rattle.book_engine.specs.Machine.{Broken, Done, Machine, Reply}

-- An engine keeps what it kept: the state with its steps, and whether rows were given to a keeper. It may have taken
-- memory.
pub record IsUnchanged (before now : Kept) : Type 0 where
  pub same_state : now.state ≡ before.state
  pub same_saved : now.saved ≡ before.saved

-- A reply with which the machine becomes another.
pub record IsChange (machine : Machine) (reply : Reply) : Type 0 where
  pub new : Machine
  pub answer : Answer
  pub done : reply ≡ Done new answer
  pub differs : new ≢ machine

-- A refusal has its cause: the broken rule; or the keeper's count of faults rose, and there was a change to keep. Out
-- of memory needs none.
abbrev pub IsRefusalOver : Machine → Reply → ℕ → ℕ → Refusal → Type 0
IsRefusalOver machine reply before now (refusal.Broken rule) = reply ≡ Broken rule
IsRefusalOver machine reply before now refusal.Keeper = Rose before now × IsChange machine reply
IsRefusalOver machine reply before now refusal.OutOfMemory = ⊤

-- The keeper's count of faults never falls, and stays where the command is done. A refusal has its cause.
pub record HasActCause {T : Type 0} (machine : Machine) (reply : Reply) (before now : ℕ) (result : Result T Refusal)
    : Type 0 where
  pub later : before ≤ now
  pub done : OnOk result (now ≡ before)
  pub refused : IfErr result (IsRefusalOver machine reply before now)
