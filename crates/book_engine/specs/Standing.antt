-- When the rows of a keeper stand for the state of an engine.
use Rattle.std.specs.Prelude.{◌≡◌, ◌⊎◌, IsTrue, List}
use Rattle.book_keeper.specs.declared.keeper.Keeper.{Ghosts}
use Rattle.book_keeper.specs.declared.row.Row.{Row}
use Rattle.book_command.specs.declared.answer.Answer.{Answer}
use Rattle.book_command.specs.declared.command.Command.{Command}
use Rattle.book_turns.specs.Standing.{StandFor}
use Rattle.book_engine.specs.Kept.{Kept}
use Rattle.book_engine.specs.Books.{machine_of}
use Rattle.book_engine.specs.Machine.{Done, Machine, Reply, step}
use Rattle.book_engine.specs.Opens.{Opens, OpensTo}

-- Rows stand for what an engine keeps: its machine is what they open as.
abbrev pub StandForKept : Kept → List Row → Type 0
StandForKept kept rows = OpensTo rows (Opens (machine_of kept.state)) × StandFor kept.saved kept.state rows

-- Rows open as the machine that one command makes of this one.
pub record OpensToNext (machine : Machine) (rows : List Row) : Type 0 where
  pub command : Command
  pub next : Machine
  pub answer : Answer
  pub done : step machine command ≡ Done next answer
  pub opens : OpensTo rows (Opens next)

-- Rows open as the machine to which this reply leads.
pub record OpensToReply (reply : Reply) (rows : List Row) : Type 0 where
  pub next : Machine
  pub answer : Answer
  pub done : reply ≡ Done next answer
  pub opens : OpensTo rows (Opens next)

-- The rows of a keeper, where it still knows them, stand for what an engine keeps. As long as it is honest, what the
-- next keeper may find opens as the engine's machine, or as the one that one command more makes of it.
pub record Stands {K : Type 0} (of : Ghosts K) (keeper : K) (kept : Kept) : Type 0 where
  pub rows : IsTrue (of.sure keeper) → (rows : List Row) × of.holds keeper rows × StandForKept kept rows
  pub left : IsTrue (of.honest keeper) → (rows : List Row) → of.may_leave keeper rows
      → OpensTo rows (Opens (machine_of kept.state)) ⊎ OpensToNext (machine_of kept.state) rows
