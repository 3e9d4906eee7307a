-- The books that the program makes from nothing, in one run or in several (a rule of this project).
use Rattle.std.specs.Prelude.{ℕ, IsTrue, List}
use Rattle.book_keeper.specs.declared.row.Row.{Row}
use Rattle.book_lines.specs.Marks.{Mark}
use Rattle.book_lines.specs.Transcript.{Run}
use Rattle.book_engine.specs.Machine.{Machine, fresh}
use Rattle.book_engine.specs.Opens.{Opens, OpensTo}
use Rattle.book_app.specs.Machine.{Leads, answers, import_answers}
use Rattle.book_app.specs.StatusClause.{Keeping}
use Rattle.book_app.specs.declared.words.ImportWords.{ImportWords}

-- A machine that the program makes from nothing: the fresh one, and each that a run leads to from one that it made. A
-- run answers lines, or imports a statement file, or serves links, whose requests lead on by commands.
pub data IsMade : Machine → Type 0 where
  New : IsMade fresh
  ByLines :
      (old new : Machine) (lines : List (List ℕ)) (marks : List Mark) (text : List ℕ) → IsMade old
      → Run answers old lines marks text new → IsMade new
  ByFile :
      (words : ImportWords) (old new : Machine) (bytes text : List ℕ) (mark : Mark) → IsMade old
      → import_answers words old bytes mark text new → IsMade new
  ByLinks : (old new : Machine) → IsMade old → Leads old new → IsMade new

-- Rows open as a machine that the program makes from nothing.
abbrev pub OpensMade : List Row → Type 0
OpensMade rows = (machine : Machine) × OpensTo rows (Opens machine) × IsMade machine

-- The keeper is honest, and still knows its rows.
pub record Knows (keeping : Keeping) : Type 0 where
  pub honest : IsTrue keeping.honest
  pub sure : IsTrue keeping.sure

-- A keeper holds such rows after a run.
abbrev pub HoldsMade : Keeping → Type 0
HoldsMade keeping = (rows : List Row) × keeping.holds rows × OpensMade rows
