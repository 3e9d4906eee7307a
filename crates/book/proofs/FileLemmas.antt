-- What is said of the rows of a file.
use Rattle.std.proofs.Common.{◌≡◌, ℕ, List, [], inl, inr, sym, subst}
use Rattle.sqlite_trees.specs.Tree.{Trees}
use Rattle.sqlite_wal.specs.Recovery.{Image}
use Rattle.sqlite.specs.Files.{HoldsDatabase}
use Rattle.book_keeper.specs.Faults.{Rose}
use Rattle.book_keeper.specs.declared.row.Row.{Row}
use Rattle.book_sqlite.specs.Content.{rows_of}
use Rattle.book_sqlite.specs.NewFiles.{HoldNothing}
use Rattle.book_sqlite.specs.RowsDatabase.{ListsRows}
use Rattle.book.specs.FileRun.{BeginsWith}

-- what holds of the rows of each database that the file holds, and of none where it holds nothing, holds of the rows
-- with which a run begins
pub of_rows :
    (image : Image) (P : List Row → Type 0)
    → ((db : Trees) → HoldsDatabase image db → ListsRows db → P (rows_of (db 0)))
    → (HoldNothing image → P [])
    → (rows : List Row) → BeginsWith image rows → P rows
of_rows image P holds empty rows (inl it) = subst P (sym it.are) (holds it.db it.database it.listed)
of_rows image P holds empty rows (inr it) = subst P (sym it.1) (empty it.0)

-- a count of faults that rose, and was none before
pub rose_from_none : (before after : ℕ) → before ≡ 0 → Rose before after → Rose 0 after
rose_from_none before after none rose = subst (λ (n : ℕ). Rose n after) none rose
