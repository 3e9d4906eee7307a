-- A database that is a file of rows.
use Rattle.std.specs.Prelude.{◌≡◌, List, [], IsTrue}
use Rattle.std.specs.List.{AllByRecursion}
use Rattle.sqlite_trees.specs.Tree.{Trees, IsTable, rowid}
use Rattle.sqlite_trees.specs.Objects.{catalog_tree}
use Rattle.sqlite_trees.specs.View.{is_int}
use Rattle.sqlite_catalog.specs.Listing.{AreListed}
use Rattle.sqlite.specs.Effect.{Database, IsDatabase}
use Rattle.book_keeper.specs.declared.row.Row.{Row}
use Rattle.book_sqlite.specs.RowsSchema.{rows_schema}
use Rattle.book_sqlite.specs.Content.{rows_of}

-- The database has the table of rows and nothing else, its rowids are integers that rise, and it obeys its schema.
pub record IsRowsDatabase (db : Database) : Type 0 where
  pub schema : db.schema ≡ rows_schema
  pub ordered : IsTable (db.trees 0)
  pub keyed : AllByRecursion (λ r. IsTrue (is_int (rowid r))) (db.trees 0)
  pub sound : IsDatabase db

-- The rows of a book that the database holds. The table of rows is its first.
abbrev pub rows_in : Database → List Row
rows_in db = rows_of (db.trees 0)

-- Where the schema is that of a file of rows, the rowids of its table are integers that rise.
abbrev pub HasRowids : Database → Type 0
HasRowids db =
    db.schema ≡ rows_schema → IsTable (db.trees 0) × AllByRecursion (λ r. IsTrue (is_int (rowid r))) (db.trees 0)

-- The trees list the table of rows with its index, and nothing else.
abbrev pub ListsRows : Trees → Type 0
ListsRows db = AreListed (db catalog_tree) rows_schema

-- The trees list nothing: no table, no index and no view.
abbrev pub ListsNothing : Trees → Type 0
ListsNothing db = db catalog_tree ≡ []
