-- Files that hold no row yet.
use Rattle.std.specs.Prelude.{◌⊎◌}
use Rattle.sqlite_wal.specs.Recovery.{Image}
use Rattle.sqlite_trees.specs.Tree.{Trees}
use Rattle.sqlite.specs.Files.{HoldsDatabase, IsNothing}
use Rattle.book_sqlite.specs.RowsDatabase.{ListsNothing}

-- No database was made in the file and its log, as where the file is empty; or one that lists nothing.
abbrev pub HoldNothing : Image → Type 0
HoldNothing image = IsNothing image ⊎ ((db : Trees) × HoldsDatabase image db × ListsNothing db)
