-- The program's run over a file, seen from the file.
use Rattle.std.specs.Prelude.{◌≡◌, ◌⊎◌, ℕ, Bool, List, []}
use Rattle.sqlite_trees.specs.Tree.{Trees}
use Rattle.sqlite_wal.specs.Recovery.{Image}
use Rattle.sqlite.specs.Files.{HoldsDatabase}
use Rattle.book_keeper.specs.declared.row.Row.{Row}
use Rattle.book_app.specs.StatusClause.{Keeping}
use Rattle.book_sqlite.specs.Content.{rows_of}
use Rattle.book_sqlite.specs.NewFiles.{HoldNothing}
use Rattle.book_sqlite.specs.RowsDatabase.{ListsRows}

-- The file and its log hold a database with the table of rows, and these are the rows.
pub record HasRows (image : Image) (rows : List Row) : Type 0 where
  pub db : Trees
  pub database : HoldsDatabase image db
  pub listed : ListsRows db
  pub are : rows ≡ rows_of (db 0)

-- The rows with which a run over the file begins: those of the table, and none where the file and its log hold nothing.
abbrev pub BeginsWith : Image → List Row → Type 0
BeginsWith image rows = HasRows image rows ⊎ (HoldNothing image × (rows ≡ []))

-- The rows with which a run over the file begins are these alone.
abbrev pub AreBegun : Image → List Row → Type 0
AreBegun image rows = (begun : List Row) → BeginsWith image begun → rows ≡ begun

-- What is seen of a file and of the keeper over it: whether the file was opened and its disk was honest; the rows with which the run begins,
-- which alone a crash could leave then; those that the keeper holds now, and those that the next run may find; and the
-- faults that it has counted.
abbrev pub over_file :
    {K : Type 0} → Image → (K → Bool) → (K → Bool) → (K → List Row → Type 0) → (K → List Row → Type 0) → (K → ℕ) → K
    → Keeping
over_file image honest sure holds may_leave faults keeper = record {
  honest = honest keeper;
  sure = sure keeper;
  held = BeginsWith image;
  holds = holds keeper;
  might_leave = AreBegun image;
  may_leave = may_leave keeper;
  faults_before = 0;
  faults_after = faults keeper;
}
