-- The rows of a book's file, as the program finds them.
use Rattle.std.specs.Prelude.{◌≡◌, ◌⊎◌, List, []}
use Rattle.sqlite_trees.specs.Tree.{Trees}
use Rattle.sqlite_wal.specs.Recovery.{Image}
use Rattle.sqlite.specs.Files.{HoldsDatabase}
use Rattle.book_keeper.specs.declared.row.Row.{Row}
use Rattle.book_sqlite.specs.Content.{rows_of}
use Rattle.book_sqlite.specs.NewFiles.{HoldNothing}
use Rattle.book_sqlite.specs.RowsDatabase.{ListsRows}

-- The file and its log hold a database with the table of rows, and these are the rows.
pub record HasRows (image : Image) (rows : List Row) : Type 0 where
  pub db : Trees
  pub database : HoldsDatabase image db
  pub listed : ListsRows db
  pub are : rows ≡ rows_of (db 0)

-- The rows of the file: those of the table, and none where the file and its log hold nothing.
abbrev pub BeginsWith : Image → List Row → Type 0
BeginsWith image rows = HasRows image rows ⊎ (HoldNothing image × (rows ≡ []))
