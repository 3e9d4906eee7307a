-- What stands inside a transaction after some of its changes.
use Rattle.std.specs.Prelude.{◌≡◌, ◌⊎◌, true, List, IsTrue}
use Rattle.sqlite.specs.State.{State, KeepsCommit}
use Rattle.book_keeper.specs.declared.row.Change.{Change}
use Rattle.book_keeper.specs.Rows.{after_changes}
use Rattle.book_sqlite.specs.RowsDatabase.{IsRowsDatabase, rows_in}

-- The last commit stays, the transaction goes on, and with the changes that are left the rows become what all changes
-- make of them. Once one is made, the connection was open as they began.
pub record IsMaking (old now : State) (left all : List Change) : Type 0 where
  pub kept : KeepsCommit old now
  pub mode : now.in_transaction ≡ true
  pub began : (left ≡ all) ⊎ IsTrue old.is_open
  pub rows : IsRowsDatabase old.now → IsRowsDatabase now.now
      × (after_changes left (rows_in now.now) ≡ after_changes all (rows_in old.now))
