-- A keeper in memory, and what a commit makes of it.
use Rattle.std.specs.Prelude.{ℕ, List}
use Rattle.book_keeper.specs.declared.row.Row.{Row}
use Rattle.book_keeper.specs.declared.row.Change.{Change}
use Rattle.book_keeper.specs.declared.row.KeepError.{KeepError}
use Rattle.book_keeper.specs.declared.row.KeepError.TheVariants.{Failed, OutOfMemory}
use Rattle.book_keeper.specs.Faults.{next_count}
use Rattle.book_keeper.specs.Rows.{after_changes}

-- Its rows, the path that it was opened with, the numbers of the commits that fail, the number of commits so far, and
-- the count of faults.
pub record KeeperInMemory : Type 0 where
  pub rows : List Row
  pub path : List ℕ
  pub fail : List ℕ
  pub commits : ℕ
  pub faults : ℕ

-- The keeper after a commit that made its changes.
abbrev pub after_commit : List Change → KeeperInMemory → KeeperInMemory
after_commit changes keeper =
    record keeper { rows = after_changes changes keeper.rows; commits = next_count keeper.commits }

-- The keeper after a commit that made none: a failure is counted.
abbrev pub after_refusal : KeepError → KeeperInMemory → KeeperInMemory
after_refusal Failed keeper = record keeper { commits = next_count keeper.commits; faults = next_count keeper.faults }
after_refusal OutOfMemory keeper = record keeper { commits = next_count keeper.commits }
